-- An era that is about to be published is later than what the index word publishes, and an interval is raised.
use Rattle.std.proofs.Common.{ℕ, ◌≡◌, ◌<◌, ◌+◌, Bool, true, false, List, Option, Some, None, refl}
use Rattle.std.specs.Prelude.{◌||◌, ◌==◌, is_some, nat_le, nat_lt, if◌then◌else◌}
use Rattle.law_scans.specs.inv.model.words.Packed.{read_request}
use Rattle.law_scans.specs.inv.model.words.Place.{is_valid}
use Rattle.law_scans.specs.inv.model.words.declared.config.Config.{Config}
use Rattle.law_scans.specs.inv.model.words.declared.config.SchemeKind.{SchemeKind}
use Rattle.law_scans.specs.inv.model.words.declared.config.SchemeKind.TheVariants.{He, Ibr, Wfe, Hp}
use Rattle.law_scans.specs.inv.model.words.declared.layout.Layout.{Layout}
use Rattle.law_scans.specs.inv.model.words.declared.packed.Request.{Request}
use Rattle.law_scans.specs.inv.model.words.declared.packed.Request.TheVariants as requests
use Rattle.law_scans.specs.inv.model.defs.declared.event.Event.{Event}
use Rattle.law_scans.specs.inv.model.defs.declared.event.Root.{Root}
use Rattle.law_scans.specs.inv.model.defs.declared.lifetime.Interval.{Interval}
use Rattle.law_scans.specs.inv.model.declared.post.Post.{Post}
use Rattle.law_scans.specs.inv.model.Allocate as allocates
use Rattle.law_scans.specs.inv.model.Calls.{Why, Phase, Idle, Runs, Scans, Works}
use Rattle.law_scans.specs.inv.model.Machine as machine
use Rattle.law_scans.specs.inv.model.Memory.{bump}
use Rattle.law_scans.specs.inv.model.Phases.{Aim, Alone, Follows, Tries, Endless, Failed, ProtectAt, Walk, Base, Turn, Outcome, Goes, Ends}
use Rattle.law_scans.specs.inv.model.Phases.BeginAt.{LoadLower}
use Rattle.law_scans.specs.inv.model.Phases.HazardAt.{FirstLink, PublishLink, CheckLink}
use Rattle.law_scans.specs.inv.model.Phases.ProtectAt.{ByHazard, LoadClock, PublishEra, LoadLink, CheckClock, PublishRequest, CheckOwnClock, AnswerOwn, LoadAnswer, TakeAnswer, WithdrawHelper, CheckUpper, RaiseUpper}
use Rattle.law_scans.specs.inv.model.Phases.AllocateAt.{ClaimSlot}
use Rattle.law_scans.specs.inv.model.Phases.RetireAt.{LoadLife}
use Rattle.law_scans.specs.inv.model.Phases.Base.{Begin, Protect, Reload, Allocate, Write, Retire, Move}
use Rattle.law_scans.specs.inv.model.Posts.{counted, upper, reserves_helper}
use Rattle.law_scans.specs.inv.model.Protect as protects
use Rattle.law_scans.specs.inv.model.Rounds.{protect_at, scheme_of}
use Rattle.law_scans.specs.inv.model.SlowPath.{own_request, answer_in, lost_turn}
use Rattle.law_scans.specs.inv.model.WriteRow.{last_written}
use Rattle.law_scans.specs.inv.shapes.Frame.{Grows, Moves, Onward, Owes}
use Rattle.law_scans.specs.inv.shapes.Seats.{PhaseFits, PostFits}
use Rattle.law_scans.proofs.reuse.shapes.Frame.{moves_with}
use Rattle.law_scans.proofs.reuse.shapes.Inside.{shape_moves}
use Rattle.law_scans.proofs.reuse.shapes.Kept.{bared_fits, counted_fits, run_counted, work_counted}
use Rattle.law_scans.proofs.inv.ends.Told.Births.{each_stores}
use Rattle.law_scans.proofs.reuse.shapes.Shapes.{shape_grows}
use Rattle.law_scans.proofs.inv.ends.Origins.Plain.{out_moves, moves_on}

-- what an index word publishes ends before this era
abbrev pub era_under : Option Interval → ℕ → Bool
era_under None era = true
era_under (Some span) era = nat_lt span.hi era

-- by what the seat's index words and its helper word publish
abbrev pub protect_risen : (values : ℕ → Option Interval) (helper : Option Interval) → Post → ℕ → ProtectAt → Type 0
protect_risen values helper post index (PublishEra era tries) = era_under (values index) era ≡ true
protect_risen values helper post index (LoadAnswer first) = is_some helper ≡ true
protect_risen values helper post index (TakeAnswer link era) = is_some helper ≡ true
protect_risen values helper post index (RaiseUpper era) = upper post.span < era
protect_risen values helper post index at = Unit {0}

abbrev pub base_risen : (values : ℕ → Option Interval) (helper : Option Interval) → Post → Base → Type 0
base_risen values helper post (Protect aim index root made at) = protect_risen values helper post index at
base_risen values helper post base = Unit {0}

abbrev pub PhaseRisen : (values : ℕ → Option Interval) (helper : Option Interval) → Post → Phase → Type 0
PhaseRisen values helper post (Runs why base) = base_risen values helper post base
PhaseRisen values helper post phase = Unit {0}

abbrev pub OutRisen : (values : ℕ → Option Interval) (helper : Option Interval) → Post → Outcome → Type 0
OutRisen values helper post (Goes base) = base_risen values helper post base
OutRisen values helper post (Ends ending) = Unit {0}

-- what a step of a protection needs, by what the words publish after it
abbrev pub protect_raises : (values : ℕ → Option Interval) (helper : Option Interval) → Post → ℕ → ProtectAt → ℕ → Type 0
protect_raises values helper post index (LoadClock tries) found = values index ≡ None
protect_raises values helper post index (CheckClock era tries link) found = (found == era) ≡ false → era_under (values index) found ≡ true
protect_raises values helper post index (CheckOwnClock first era last link) found = is_some helper ≡ true
protect_raises values helper post index (AnswerOwn first era link) found = is_some helper ≡ true
protect_raises values helper post index (LoadAnswer first) found = is_some helper ≡ true
protect_raises values helper post index (CheckUpper link) found = (found == upper post.span) ≡ false → upper post.span < found
protect_raises values helper post index at found = Unit {0}

abbrev pub base_raises : (values : ℕ → Option Interval) (helper : Option Interval) → Post → Base → ℕ → Type 0
base_raises values helper post (Protect aim index root made at) found = protect_raises values helper post index at found
base_raises values helper post base found = Unit {0}

abbrev pub PhaseRaises : (values : ℕ → Option Interval) (helper : Option Interval) → Post → Phase → ℕ → Type 0
PhaseRaises values helper post (Runs why base) found = base_raises values helper post base found
PhaseRaises values helper post phase found = Unit {0}

-- what a turn leaves
abbrev TurnRisen : (values : ℕ → Option Interval) (helper : Option Interval) → Turn → Type 0
TurnRisen values helper t = OutRisen values helper t.post t.outcome

risen_if : (values : ℕ → Option Interval) (helper : Option Interval) (t u : Turn) (same : Bool) → TurnRisen values helper t → (same ≡ false → TurnRisen values helper u) → TurnRisen values helper (if same then t else u)
risen_if values helper t u true h k = h
risen_if values helper t u false h k = k refl

concluded_risen : (values : ℕ → Option Interval) (helper : Option Interval) (aim : Aim) (index : ℕ) (root : Root) (n link era : ℕ) (post : Post) (told : List Event) → TurnRisen values helper (protects.concluded aim index root n link era post told)
concluded_risen values helper Alone index root n link era post told = tt
concluded_risen values helper Follows index root n link era post told = risen_if values helper _ _ (link == 0) tt (λ e. tt)

trying_risen : (values : ℕ → Option Interval) (helper : Option Interval) (post : Post) (index : ℕ) (config : Config) (era : ℕ) (tries : Tries) → protect_risen values helper post index (protects.trying config era tries)
trying_risen values helper post index config era Endless = tt
trying_risen values helper post index config era (Failed count) = by (nat_le config.tries count)
  where
    by : (over : Bool) → protect_risen values helper post index (if over then PublishRequest else LoadLink era (Failed count))
    by true = tt
    by false = tt

lost_risen : (values : ℕ → Option Interval) (helper : Option Interval) (post : Post) (index first found : ℕ) (last : Bool) → is_some helper ≡ true → protect_risen values helper post index (lost_turn first last found)
lost_risen values helper post index first found true h = h
lost_risen values helper post index first found false h = tt

answer_risen : (values : ℕ → Option Interval) (helper : Option Interval) (post : Post) (index : ℕ) (x : Option Request) → is_some helper ≡ true → protect_risen values helper post index (answer_in x)
answer_risen values helper post index (Some (requests.Answered link era)) h = h
answer_risen values helper post index (Some (requests.Pending tag at word)) h = h
answer_risen values helper post index (Some requests.Idle) h = h
answer_risen values helper post index None h = h

protect_on : (values : ℕ → Option Interval) (helper : Option Interval) (aim : Aim) (index : ℕ) (root : Root) (n : ℕ) (at : ProtectAt) (post : Post) (found : ℕ) → protect_raises values helper post index at found → TurnRisen values helper (machine.protect_turn aim index root n at post found)
protect_on values helper aim index root n (LoadClock tries) post found h = rw h refl
protect_on values helper aim index root n (PublishEra era tries) post found h = trying_risen values helper post index post.layout.config era tries
protect_on values helper aim index root n (CheckClock era tries link) post found h =
    risen_if values helper _ _ (found == era) (concluded_risen values helper aim index root n link era (protects.held_post post index root link) (protects.told_held index root link n)) h
protect_on values helper aim index root n (CheckOwnClock first era last link) post found h = risen_if values helper _ _ (found == era) tt (λ e. lost_risen values helper post index first found last h)
protect_on values helper aim index root n (AnswerOwn first era link) post found h = risen_if values helper _ _ (found == own_request post index root) h (λ e. answer_risen values helper post index (read_request found) h)
protect_on values helper aim index root n (LoadAnswer first) post found h = answer_risen values helper post index (read_request found) h
protect_on values helper aim index root n (WithdrawHelper link era) post found h = concluded_risen values helper aim index root n link era post (reserves_helper post 0)
protect_on values helper aim index root n (CheckUpper link) post found h =
    risen_if values helper _ _ (found == upper post.span) (concluded_risen values helper aim index root n link found (protects.held_post post index root link) (protects.told_held index root link n)) h
protect_on values helper aim index root n (ByHazard FirstLink) post found h =
    risen_if values helper _ _ (found == 0) (concluded_risen values helper aim index root n found 0 (protects.held_post post index root found) (protects.told_held index root found n)) (λ e. tt)
protect_on values helper aim index root n (ByHazard (PublishLink link)) post found h = tt
protect_on values helper aim index root n (ByHazard (CheckLink link)) post found h =
    risen_if values helper _ _ (found == link || found == 0) (concluded_risen values helper aim index root n found 0 (protects.held_post post index root found) (protects.told_held index root found n)) (λ e. tt)
protect_on values helper aim index root n at post found h = tt

moves_risen : (values : ℕ → Option Interval) (helper : Option Interval) (post : Post) (outcome : Outcome) → out_moves outcome ≡ true → OutRisen values helper post outcome
moves_risen values helper post (Goes (Protect aim index root made at)) h = absurd (cc)
moves_risen values helper post (Goes base) h = tt
moves_risen values helper post (Ends ending) h = tt

walking_risen : (values : ℕ → Option Interval) (helper : Option Interval) (birth : ℕ) (post : Post) (x : Option Walk) → TurnRisen values helper (allocates.walking birth post x)
walking_risen values helper birth post None = tt
walking_risen values helper birth post (Some walk) = tt

base_on : (values : ℕ → Option Interval) (helper : Option Interval) (base : Base) (post : Post) (found : ℕ) → base_raises values helper post base found → TurnRisen values helper (machine.after base post found)
base_on values helper (Begin LoadLower) post found h = tt
base_on values helper (Protect aim index root made at) post found h = protect_on values helper aim index root (bump made) at post found h
base_on values helper (Reload parent index slot era made) post found h = risen_if values helper _ _ (found == parent + 1) tt (λ e. tt)
base_on values helper (Allocate (ClaimSlot birth walk)) post found h =
    risen_if values helper _ _ (allocates.is_claimed found walk.slot) (walking_risen values helper birth post (allocates.walk_past post.layout.config.slots walk found)) (λ e. tt)
base_on values helper (Write slot row place) post found h = risen_if values helper _ _ (place == last_written row) tt (λ e. tt)
base_on values helper (Retire (LoadLife slot)) post found h = tt
base_on values helper (Move at) post found h = moves_risen values helper (machine.after (Move at) post found).post (machine.after (Move at) post found).outcome (moves_on at post found)
base_on values helper base post found h = tt

opened_risen : (values : ℕ → Option Interval) (helper : Option Interval) (post : Post) (index : ℕ) (scheme : SchemeKind) → protect_risen values helper post index (protect_at scheme)
opened_risen values helper post index He = tt
opened_risen values helper post index Ibr = tt
opened_risen values helper post index Wfe = tt
opened_risen values helper post index Hp = tt

pub risen_grows : (layout : Layout) (k : ℕ) (values : ℕ → Option Interval) (helper : Option Interval) → is_valid layout ≡ true → Grows (PostFits layout k) (PhaseRisen values helper)
risen_grows layout k values helper v = let g = shape_grows layout k v in record {
  guarded = g.guarded;
  withdraws = g.withdraws;
  copies = g.copies;
  idle = λ post q. tt;
  begins = λ post task s e q. tt;
  opens = λ post task s q. opened_risen values helper post _ (scheme_of post);
  follows = λ post head tail s q. opened_risen values helper post 1 (scheme_of post);
  allocates = λ post task s q. tt;
  writes = λ post task slot row s q. tt;
  clears = λ post task next s q. tt;
  clears_next = λ post next s q. tt;
  finishes = λ post task next s e q. tt;
  gives_up = λ post answer slot q. tt;
  retires = λ post answer slot q. tt;
  tidies = λ post later m q. tt;
  advances = λ post q. tt;
  clears_kept = λ post let_go n q. tt;
  releases = λ post let_go a b q. tt;
  scans = λ post later number b q. tt;
  gives_back = λ post later place slot q. tt;
  works = λ post work stores s q. tt;
}

onward_risen : (values : ℕ → Option Interval) (helper : Option Interval) (why : Why) (post : Post) (outcome : Outcome) → OutRisen values helper post outcome → Onward (PhaseRisen values helper) why post outcome
onward_risen values helper why post (Goes base) h = h
onward_risen values helper why post (Ends ending) h = tt

pub risen_owed : (layout : Layout) (k : ℕ) (values : ℕ → Option Interval) (helper : Option Interval) → is_valid layout ≡ true → (phase : Phase) (post : Post) (found : ℕ) → PostFits layout k post → PhaseFits layout post phase → PhaseRaises values helper (counted post) phase found
    → Owes (PostFits layout k) (PhaseRisen values helper) (counted post) found phase
risen_owed layout k values helper v Idle post found q p f = counted_fits layout k post q
risen_owed layout k values helper v (Runs why base) post found q p f =
    let t : Turn = machine.after base (counted post) found in
    let m : Moves (PostFits layout k) (PhaseFits layout) why t = shape_moves layout k v why base (counted post) found (counted_fits layout k post q) (run_counted layout why base post p) in
    moves_with why t m (record { post = m.post; phase = onward_risen values helper why t.post t.outcome (base_on values helper base (counted post) found f) })
risen_owed layout k values helper v (Scans later at) post found q p f = counted_fits layout k post q
risen_owed layout k values helper v (Works work) post found q p f = record { post = bared_fits layout k work (counted post) (counted_fits layout k post q); fits = work_counted work post p; stores = each_stores (λ p phase. PhaseRisen values helper p phase) (λ p from index era. tt) (counted post) found work }
