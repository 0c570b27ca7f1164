-- The eras that a seat has in hand were the clock in its call: no earlier than the clock where the call began.
use Rattle.std.proofs.Common.{subst, sym, ℕ, ◌≡◌, ◌≤◌, ◌+◌, Bool, true, false, List, Option, Some, None, refl}
use Rattle.std.specs.Prelude.{◌==◌, ◌||◌, nat_le, nat_lt, if◌then◌else◌}
use Rattle.law_scans.specs.laws.words.Packed.{reservation_word, read_request, read_reservation}
use Rattle.law_scans.specs.laws.words.Place.{is_valid}
use Rattle.law_scans.specs.laws.words.declared.config.Config.{Config}
use Rattle.law_scans.specs.laws.words.declared.config.SchemeKind.{SchemeKind}
use Rattle.law_scans.specs.laws.words.declared.config.SchemeKind.TheVariants.{He, Hp, Ibr, Wfe}
use Rattle.law_scans.specs.laws.words.declared.layout.Layout.{Layout}
use Rattle.law_scans.specs.laws.words.declared.packed.Request.{Request}
use Rattle.law_scans.specs.laws.words.declared.packed.Request.TheVariants as requests
use Rattle.law_scans.specs.laws.defs.declared.event.Event.{Event}
use Rattle.law_scans.specs.laws.defs.declared.event.Root.{Root}
use Rattle.law_scans.specs.inv.model.declared.post.Post.{Post}
use Rattle.law_scans.specs.inv.model.Allocate as allocates
use Rattle.law_scans.specs.inv.model.Calls.{Why, Loosens, LoadHeld, StoreHeld, Looks, Misses, HideSpan, MarkLeft, TakeList, MarkTaken, Work, Getting, Changing, Enqueuing, Dequeuing, Keeping, Phase, Idle, Runs, Scans, Works}
use Rattle.law_scans.specs.inv.model.Machine as machine
use Rattle.law_scans.specs.inv.model.Memory.{bump}
use Rattle.law_scans.specs.inv.model.MoveClock as movers
use Rattle.law_scans.specs.inv.model.Phases.{Aim, Alone, Follows, Tries, Endless, Failed, BeginAt, ProtectAt, AllocateAt, RetireAt, MoveAt, Walk, Base, Turn, Outcome, Goes, Ends}
use Rattle.law_scans.specs.inv.model.Phases.BeginAt.{LoadLower, PublishSpan}
use Rattle.law_scans.specs.inv.model.Phases.ProtectAt.{LoadClock, PublishEra, LoadLink, CheckClock, PublishRequest, LoadOwnClock, PublishHelper, LoadOwnLink, CheckOwnClock, AnswerOwn, LoadAnswer, TakeAnswer, WithdrawRequest, WithdrawHelper, LoadWithin, CheckUpper, RaiseUpper, ByHazard}
use Rattle.law_scans.specs.inv.model.Phases.HazardAt.{FirstLink, PublishLink, CheckLink}
use Rattle.law_scans.specs.inv.model.Phases.AllocateAt.{LoadBirth, ClaimSlot, StoreLife}
use Rattle.law_scans.specs.inv.model.Phases.RetireAt.{LoadLife, LoadRetire, StoreRetired}
use Rattle.law_scans.specs.inv.model.Phases.MoveAt.{LoadEra, LoadRequest, ShowEra, LoadAsked, CheckEra, AnswerAsked, LoadReserved, HandOver, HideEra, HideLate, ExchangeClock}
use Rattle.law_scans.specs.inv.model.Phases.Base.{Begin, Protect, Reload, Clear, Finish, Release, Allocate, Write, GiveUp, Retire, Move}
use Rattle.law_scans.specs.inv.model.Posts.{counted, upper, reserves_helper}
use Rattle.law_scans.specs.inv.model.Protect as protects
use Rattle.law_scans.specs.inv.model.Rounds.{protect_at, scheme_of}
use Rattle.law_scans.specs.inv.model.SlowPath.{own_request, asking, answer_in, lost_turn}
use Rattle.law_scans.specs.inv.model.WriteRow.{last_written}
use Rattle.law_scans.specs.inv.shapes.Frame.{Grows, Moves, Onward, Owes, Stores}
use Rattle.law_scans.specs.inv.shapes.Seats.{PhaseFits, PostFits}
use Rattle.law_scans.proofs.reuse.shapes.Frame.{moves_with}
use Rattle.law_scans.proofs.reuse.shapes.Inside.{shape_moves}
use Rattle.law_scans.proofs.reuse.shapes.Kept.{bared_fits, counted_fits, run_counted, work_counted}
use Rattle.law_scans.proofs.reuse.shapes.Shapes.{shape_grows}

-- the eras of a phase are no earlier than this, and a retire era no earlier than the clock where the row was cut
abbrev pub begin_since : (from : ℕ) → BeginAt → Type 0
begin_since from LoadLower = Unit {0}
begin_since from (PublishSpan era) = from ≤ era

abbrev pub protect_since : (from : ℕ) → ProtectAt → Type 0
protect_since from (LoadClock tries) = Unit {0}
protect_since from (PublishEra era tries) = from ≤ era
protect_since from (LoadLink era tries) = Unit {0}
protect_since from (CheckClock era tries link) = Unit {0}
protect_since from PublishRequest = Unit {0}
protect_since from LoadOwnClock = Unit {0}
protect_since from (PublishHelper first era last) = from ≤ era
protect_since from (LoadOwnLink first era last) = from ≤ era
protect_since from (CheckOwnClock first era last link) = from ≤ era
protect_since from (AnswerOwn first era link) = from ≤ era
protect_since from (LoadAnswer first) = Unit {0}
protect_since from (TakeAnswer link era) = from ≤ era
protect_since from (WithdrawRequest link era) = Unit {0}
protect_since from (WithdrawHelper link era) = Unit {0}
protect_since from LoadWithin = Unit {0}
protect_since from (CheckUpper link) = Unit {0}
protect_since from (RaiseUpper era) = from ≤ era
protect_since from (ByHazard at) = Unit {0}

abbrev pub allocate_since : (from : ℕ) → AllocateAt → Type 0
allocate_since from LoadBirth = Unit {0}
allocate_since from (ClaimSlot birth walk) = from ≤ birth
allocate_since from (StoreLife birth slot) = Unit {0}

abbrev pub retire_since : (cut : ℕ → ℕ) → RetireAt → Type 0
retire_since cut (LoadLife slot) = Unit {0}
retire_since cut (LoadRetire slot birth) = Unit {0}
retire_since cut (StoreRetired slot birth retire) = cut slot ≤ retire

abbrev pub move_since : (from : ℕ) → MoveAt → Type 0
move_since from (LoadEra helps) = Unit {0}
move_since from (LoadRequest era seat shows) = from ≤ era
move_since from (ShowEra era seat tag index root) = from ≤ era
move_since from (LoadAsked era seat tag index root) = from ≤ era
move_since from (CheckEra era seat tag index root link) = from ≤ era
move_since from (AnswerAsked era seat tag index root link) = from ≤ era
move_since from (LoadReserved era seat tag index root link) = from ≤ era
move_since from (HandOver era seat tag index root link old) = from ≤ era
move_since from (HideEra era) = Unit {0}
move_since from (HideLate seen) = Unit {0}
move_since from (ExchangeClock era) = Unit {0}

abbrev pub base_since : (from : ℕ) (cut : ℕ → ℕ) → Base → Type 0
base_since from cut (Begin at) = begin_since from at
base_since from cut (Protect aim index root steps at) = protect_since from at
base_since from cut (Reload parent index slot era steps) = Unit {0}
base_since from cut (Clear rows index) = Unit {0}
base_since from cut Finish = Unit {0}
base_since from cut (Release index) = Unit {0}
base_since from cut (Allocate at) = allocate_since from at
base_since from cut (Write slot row place) = Unit {0}
base_since from cut (GiveUp slot) = Unit {0}
base_since from cut (Retire at) = retire_since cut at
base_since from cut (Move at) = move_since from at

abbrev pub PhaseSince : (from : ℕ) (cut : ℕ → ℕ) → Phase → Type 0
PhaseSince from cut Idle = Unit {0}
PhaseSince from cut (Runs why base) = base_since from cut base
PhaseSince from cut (Scans later at) = Unit {0}
PhaseSince from cut (Works work) = Unit {0}

-- where a machine goes on
abbrev pub OutSince : (from : ℕ) (cut : ℕ → ℕ) → Outcome → Type 0
OutSince from cut (Goes base) = base_since from cut base
OutSince from cut (Ends ending) = Unit {0}

-- a step that loads the clock
abbrev pub loads_protect : ProtectAt → Bool
loads_protect (LoadClock tries) = true
loads_protect (CheckClock era tries link) = true
loads_protect LoadOwnClock = true
loads_protect (CheckOwnClock first era last link) = true
loads_protect (CheckUpper link) = true
loads_protect at = false

abbrev pub loads_base : Base → Bool
loads_base (Begin LoadLower) = true
loads_base (Protect aim index root steps at) = loads_protect at
loads_base (Allocate LoadBirth) = true
loads_base (Retire (LoadRetire slot birth)) = true
loads_base (Move (LoadEra helps)) = true
loads_base base = false

-- an answer that a protection finds in its request
abbrev pub HeardSince : (from : ℕ) → ProtectAt → Post → ℕ → Root → ℕ → Type 0
HeardSince from (AnswerOwn first era link) post index root found = (found == own_request post index root) ≡ false → protect_since from (answer_in (read_request found))
HeardSince from (LoadAnswer first) post index root found = protect_since from (answer_in (read_request found))
HeardSince from at post index root found = Unit {0}

abbrev pub BaseHears : (from : ℕ) → Base → Post → ℕ → Type 0
BaseHears from (Protect aim index root steps at) post found = HeardSince from at post index root found
BaseHears from base post found = Unit {0}

-- what a step needs: the clock that it loads is no earlier, nor is the answer that it finds
pub record Loads (from : ℕ) (cut : ℕ → ℕ) (base : Base) (post : Post) (found : ℕ) : Type 0 where
  pub clock : loads_base base ≡ true → from ≤ found
  pub cuts : (slot birth : ℕ) → base ≡ Retire (LoadRetire slot birth) → cut slot ≤ found
  pub hears : BaseHears from base post found

out_if : (from : ℕ) (cut : ℕ → ℕ) (t u : Turn) (same : Bool) → OutSince from cut t.outcome → OutSince from cut u.outcome → OutSince from cut (if same then t else u).outcome
out_if from cut t u true h k = h
out_if from cut t u false h k = k

out_when : (from : ℕ) (cut : ℕ → ℕ) (t u : Turn) (same : Bool) → OutSince from cut t.outcome → (same ≡ false → OutSince from cut u.outcome) → OutSince from cut (if same then t else u).outcome
out_when from cut t u true h k = h
out_when from cut t u false h k = k refl

-- a protection
concluded_since : (from : ℕ) (cut : ℕ → ℕ) (aim : Aim) (index : ℕ) (root : Root) (n link era : ℕ) (post : Post) (told : List Event) → OutSince from cut (protects.concluded aim index root n link era post told).outcome
concluded_since from cut Alone index root n link era post told = tt
concluded_since from cut Follows index root n link era post told = out_if from cut _ _ (link == 0) tt tt

trying_since : (from : ℕ) (config : Config) (era : ℕ) (tries : Tries) → protect_since from (protects.trying config era tries)
trying_since from config era Endless = tt
trying_since from config era (Failed count) = by (nat_le config.tries count)
  where
    by : (over : Bool) → protect_since from (if over then PublishRequest else LoadLink era (Failed count))
    by true = tt
    by false = tt

lost_since : (from first found : ℕ) (last : Bool) → from ≤ found → protect_since from (lost_turn first last found)
lost_since from first found true h = tt
lost_since from first found false h = h

protect_on : (from : ℕ) (cut : ℕ → ℕ) (aim : Aim) (index : ℕ) (root : Root) (n : ℕ) (at : ProtectAt) (post : Post) (found : ℕ) → (loads_protect at ≡ true → from ≤ found) → HeardSince from at post index root found → protect_since from at → OutSince from cut (machine.protect_turn aim index root n at post found).outcome
protect_on from cut aim index root n (LoadClock tries) post found l h f = l refl
protect_on from cut aim index root n (PublishEra era tries) post found l h f = trying_since from post.layout.config era tries
protect_on from cut aim index root n (CheckClock era tries link) post found l h f =
    out_if from cut _ _ (found == era) (concluded_since from cut aim index root n link era (protects.held_post post index root link) (protects.told_held index root link n)) (l refl)
protect_on from cut aim index root n LoadOwnClock post found l h f = l refl
protect_on from cut aim index root n (PublishHelper first era last) post found l h f = f
protect_on from cut aim index root n (LoadOwnLink first era last) post found l h f = f
protect_on from cut aim index root n (CheckOwnClock first era last link) post found l h f = out_if from cut _ _ (found == era) f (lost_since from first found last (l refl))
protect_on from cut aim index root n (AnswerOwn first era link) post found l h f = out_when from cut _ _ (found == own_request post index root) f h
protect_on from cut aim index root n (LoadAnswer first) post found l h f = h
protect_on from cut aim index root n (WithdrawHelper link era) post found l h f = concluded_since from cut aim index root n link era post (reserves_helper post 0)
protect_on from cut aim index root n (CheckUpper link) post found l h f =
    out_if from cut _ _ (found == upper post.span) (concluded_since from cut aim index root n link found (protects.held_post post index root link) (protects.told_held index root link n)) (l refl)
protect_on from cut aim index root n (ByHazard FirstLink) post found l h f =
    out_if from cut _ _ (found == 0) (concluded_since from cut aim index root n found 0 (protects.held_post post index root found) (protects.told_held index root found n)) tt
protect_on from cut aim index root n (ByHazard (PublishLink link)) post found l h f = tt
protect_on from cut aim index root n (ByHazard (CheckLink link)) post found l h f =
    out_if from cut _ _ (found == link || found == 0) (concluded_since from cut aim index root n found 0 (protects.held_post post index root found) (protects.told_held index root found n)) tt
protect_on from cut aim index root n at post found l h f = tt

-- a walk for a free row
walking_since : (from : ℕ) (cut : ℕ → ℕ) (birth : ℕ) (post : Post) (x : Option Walk) → from ≤ birth → OutSince from cut (allocates.walking birth post x).outcome
walking_since from cut birth post None f = tt
walking_since from cut birth post (Some walk) f = f

allocate_on : (from : ℕ) (cut : ℕ → ℕ) (at : AllocateAt) (post : Post) (found : ℕ) → (loads_base (Allocate at) ≡ true → from ≤ found) → allocate_since from at → OutSince from cut (machine.allocate_turn at post found).outcome
allocate_on from cut LoadBirth post found l f = l refl
allocate_on from cut (ClaimSlot birth walk) post found l f =
    out_if from cut _ _ (allocates.is_claimed found walk.slot) (walking_since from cut birth post (allocates.walk_past post.layout.config.slots walk found) f) tt
allocate_on from cut (StoreLife birth slot) post found l f = tt

-- a move of the clock
next_since : (from : ℕ) (post : Post) (era seat : ℕ) (shows : Bool) → from ≤ era → move_since from (movers.next_request post era seat shows)
next_since from post era seat shows f = by (nat_lt (seat + 1) post.layout.config.seats) shows
  where
    by : (more shows : Bool) → move_since from (if more then LoadRequest era (seat + 1) shows else movers.all_met era shows)
    by true shows = f
    by false true = tt
    by false false = tt

met_since : (from : ℕ) (post : Post) (era seat : ℕ) (shows : Bool) (request : Option Request) → from ≤ era → move_since from (movers.met post era seat shows request)
met_since from post era seat true (Some (requests.Pending tag index word)) f = f
met_since from post era seat false (Some (requests.Pending tag index word)) f = f
met_since from post era seat shows (Some (requests.Answered link answered)) f = next_since from post era seat shows f
met_since from post era seat shows (Some requests.Idle) f = next_since from post era seat shows f
met_since from post era seat shows None f = next_since from post era seat shows f

moving_since : (from : ℕ) (helps : Bool) (found : ℕ) → from ≤ found → move_since from (movers.moving helps found)
moving_since from true found f = f
moving_since from false found f = tt

handed_since : (from : ℕ) (cut : ℕ → ℕ) (era seat tag index old : ℕ) (post : Post) (same : Bool) → from ≤ era → OutSince from cut (movers.after_hand_over era seat tag index old post same).outcome
handed_since from cut era seat tag index old post true f = next_since from post era seat true f
handed_since from cut era seat tag index old post false f = next_since from post era seat true f

move_on : (from : ℕ) (cut : ℕ → ℕ) (at : MoveAt) (post : Post) (found : ℕ) → (loads_base (Move at) ≡ true → from ≤ found) → move_since from at → OutSince from cut (machine.move_turn at post found).outcome
move_on from cut (LoadEra helps) post found l f = out_if from cut _ _ (found == post.layout.config.last_era) tt (moving_since from helps found (l refl))
move_on from cut (LoadRequest era seat shows) post found l f = met_since from post era seat shows (read_request found) f
move_on from cut (ShowEra era seat tag index root) post found l f = f
move_on from cut (LoadAsked era seat tag index root) post found l f = f
move_on from cut (CheckEra era seat tag index root link) post found l f = out_if from cut _ _ (found == era) f tt
move_on from cut (AnswerAsked era seat tag index root link) post found l f = out_if from cut _ _ (found == asking post.layout tag index root) f (next_since from post era seat true f)
move_on from cut (LoadReserved era seat tag index root link) post found l f = out_if from cut _ _ ((read_reservation found).tag == tag) f (next_since from post era seat true f)
move_on from cut (HandOver era seat tag index root link old) post found l f = handed_since from cut era seat tag index old post (found == reservation_word (record { era = old; tag = tag })) f
move_on from cut (HideEra era) post found l f = tt
move_on from cut (HideLate seen) post found l f = tt
move_on from cut (ExchangeClock era) post found l f = out_if from cut _ _ (found == era) tt tt

retire_on : (from : ℕ) (cut : ℕ → ℕ) (at : RetireAt) (post : Post) (found : ℕ) → ((slot birth : ℕ) → Retire at ≡ Retire (LoadRetire slot birth) → cut slot ≤ found) → OutSince from cut (machine.retire_turn at post found).outcome
retire_on from cut (LoadLife slot) post found c = tt
retire_on from cut (LoadRetire slot birth) post found c = c slot birth refl
retire_on from cut (StoreRetired slot birth retire) post found c = tt

-- a machine's step
base_on : (from : ℕ) (old cut : ℕ → ℕ) (base : Base) (post : Post) (found : ℕ) → Loads from cut base post found → base_since from old base → OutSince from cut (machine.after base post found).outcome
base_on from old cut (Begin LoadLower) post found l f = l.clock refl
base_on from old cut (Protect aim index root steps at) post found l f = protect_on from cut aim index root (bump steps) at post found l.clock l.hears f
base_on from old cut (Reload parent index slot era steps) post found l f = out_if from cut _ _ (found == parent + 1) tt tt
base_on from old cut (Allocate at) post found l f = allocate_on from cut at post found l.clock f
base_on from old cut (Write slot row place) post found l f = out_if from cut _ _ (place == last_written row) tt tt
base_on from old cut (Retire at) post found l f = retire_on from cut at post found l.cuts
base_on from old cut (Move at) post found l f = move_on from cut at post found l.clock f
base_on from old cut base post found l f = tt

-- where a call comes to by no step of a machine it has no era in hand
opened_since : (from : ℕ) (scheme : SchemeKind) → protect_since from (protect_at scheme)
opened_since from He = tt
opened_since from Ibr = tt
opened_since from Wfe = tt
opened_since from Hp = tt

abbrev pub Aged : (from : ℕ) (cut : ℕ → ℕ) → Post → Phase → Type 0
Aged from cut post phase = PhaseSince from cut phase

pub since_grows : (layout : Layout) (k from : ℕ) (cut : ℕ → ℕ) → is_valid layout ≡ true → Grows (PostFits layout k) (Aged from cut)
since_grows layout k from cut v = let g = shape_grows layout k v in record {
  guarded = g.guarded;
  withdraws = g.withdraws;
  copies = g.copies;
  idle = λ post q. tt;
  begins = λ post task s e q. tt;
  opens = λ post task s q. opened_since from (scheme_of post);
  follows = λ post head tail s q. opened_since from (scheme_of post);
  allocates = λ post task s q. tt;
  writes = λ post task slot row s q. tt;
  clears = λ post task next s q. tt;
  clears_next = λ post next s q. tt;
  finishes = λ post task next s e q. tt;
  gives_up = λ post answer slot q. tt;
  retires = λ post answer slot q. tt;
  tidies = λ post later m q. tt;
  advances = λ post q. tt;
  clears_kept = λ post let_go s q. tt;
  releases = λ post let_go s e q. tt;
  scans = λ post later number b q. tt;
  gives_back = λ post later place slot q. tt;
  works = λ post work n s q. tt;
}

onward_since : (from : ℕ) (cut : ℕ → ℕ) (why : Why) (post : Post) (outcome : Outcome) → OutSince from cut outcome → Onward (Aged from cut) why post outcome
onward_since from cut why post (Goes base) h = h
onward_since from cut why post (Ends ending) h = tt

abbrev pub PhaseLoads : (from : ℕ) (cut : ℕ → ℕ) → Phase → Post → ℕ → Type 0
PhaseLoads from cut Idle post found = Unit {0}
PhaseLoads from cut (Runs why base) post found = Loads from cut base post found
PhaseLoads from cut (Scans later at) post found = Unit {0}
PhaseLoads from cut (Works work) post found = Unit {0}

stores_since : (from : ℕ) (cut : ℕ → ℕ) (post : Post) (found : ℕ) (work : Work) → Stores (Aged from cut) post found work
stores_since from cut post found (Keeping (LoadHeld one other)) = λ e. tt
stores_since from cut post found (Keeping (StoreHeld one other era)) = tt
stores_since from cut post found (Keeping (Loosens let_go)) = tt
stores_since from cut post found (Keeping (Looks index key at)) = tt
stores_since from cut post found (Keeping (Misses index)) = tt
stores_since from cut post found (Keeping HideSpan) = tt
stores_since from cut post found (Keeping MarkLeft) = tt
stores_since from cut post found (Keeping (TakeList place)) = tt
stores_since from cut post found (Keeping (MarkTaken place count)) = tt
stores_since from cut post found (Getting key at) = tt
stores_since from cut post found (Changing kept at) = tt
stores_since from cut post found (Enqueuing kept at) = tt
stores_since from cut post found (Dequeuing at) = tt

pub since_owed : (layout : Layout) (k from : ℕ) (old cut : ℕ → ℕ) → is_valid layout ≡ true → (phase : Phase) (post : Post) (found : ℕ) → PostFits layout k post → PhaseFits layout post phase → PhaseLoads from cut phase (counted post) found → PhaseSince from old phase
    → Owes (PostFits layout k) (Aged from cut) (counted post) found phase
since_owed layout k from old cut v Idle post found q p l f = counted_fits layout k post q
since_owed layout k from old cut v (Runs why base) post found q p l f =
    let t : Turn = machine.after base (counted post) found in
    let m : Moves (PostFits layout k) (PhaseFits layout) why t = shape_moves layout k v why base (counted post) found (counted_fits layout k post q) (run_counted layout why base post p) in
    moves_with why t m (record { post = m.post; phase = onward_since from cut why t.post t.outcome (base_on from old cut base (counted post) found l f) })
since_owed layout k from old cut v (Scans later at) post found q p l f = counted_fits layout k post q
since_owed layout k from old cut v (Works work) post found q p l f = record { post = bared_fits layout k work (counted post) (counted_fits layout k post q); fits = work_counted work post p; stores = stores_since from cut (counted post) found work }

-- the same eras, by other words for the clock from which they count
same_retire : (cut next : ℕ → ℕ) (at : RetireAt) → ((s : ℕ) → next s ≡ cut s) → retire_since cut at → retire_since next at
same_retire cut next (LoadLife slot) c f = tt
same_retire cut next (LoadRetire slot birth) c f = tt
same_retire cut next (StoreRetired slot birth retire) c f = subst (λ (x : ℕ). x ≤ retire) (sym (c slot)) f

same_base : (from : ℕ) (cut next : ℕ → ℕ) (base : Base) → ((s : ℕ) → next s ≡ cut s) → base_since from cut base → base_since from next base
same_base from cut next (Retire at) c f = same_retire cut next at c f
same_base from cut next (Begin at) c f = f
same_base from cut next (Protect aim index root steps at) c f = f
same_base from cut next (Allocate at) c f = f
same_base from cut next (Move at) c f = f
same_base from cut next base c f = tt

same_phase : (from : ℕ) (cut next : ℕ → ℕ) (phase : Phase) → ((s : ℕ) → next s ≡ cut s) → PhaseSince from cut phase → PhaseSince from next phase
same_phase from cut next Idle c f = tt
same_phase from cut next (Runs why base) c f = same_base from cut next base c f
same_phase from cut next (Scans later at) c f = tt
same_phase from cut next (Works work) c f = tt

pub same_since : (from later : ℕ) (cut next : ℕ → ℕ) (phase : Phase) → later ≡ from → ((s : ℕ) → next s ≡ cut s) → PhaseSince from cut phase → PhaseSince later next phase
same_since from later cut next phase e c f = subst (λ (x : ℕ). PhaseSince x next phase) (sym e) (same_phase from cut next phase c f)
