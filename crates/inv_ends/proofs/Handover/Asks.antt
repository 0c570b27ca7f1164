-- Who asks: the seat of a request that is not taken stands in the slow path at the request's index, where nothing stands.
use Rattle.std.proofs.Common.{ℕ, ◌≡◌, ◌∙◌, Bool, true, false, None, refl, ap, sym, subst, arith, not}
use Rattle.std.proofs.lemmas.Bool.Decides.{nat_tests}
use Rattle.inv_rows.specs.words.Place.Place.{Clock}
use Rattle.inv_rows.specs.words.declared.layout.Layout.{Layout}
use Rattle.inv_rows.specs.defs.declared.event.Root.{Root}
use Rattle.inv_rows.specs.model.declared.post.Post.{Post}
use Rattle.inv_rows.specs.model.Links.{link_number}
use Rattle.inv_rows.specs.model.Posts.{stands}
use Rattle.inv_rows.specs.model.Phases.{Aim, ProtectAt, MoveAt, Base}
use Rattle.inv_rows.specs.model.Phases.ProtectAt.{LoadClock, PublishEra, LoadLink, CheckClock, PublishRequest, LoadOwnClock, PublishHelper, LoadOwnLink, CheckOwnClock, AnswerOwn, LoadAnswer, TakeAnswer, WithdrawRequest, WithdrawHelper, LoadWithin, CheckUpper, RaiseUpper, ByHazard}
use Rattle.inv_rows.specs.model.Phases.MoveAt.{LoadEra, LoadRequest, ShowEra, LoadAsked, CheckEra, AnswerAsked, LoadReserved, HandOver, HideEra, HideLate, ExchangeClock}
use Rattle.inv_rows.specs.model.Phases.Base.{Begin, Protect, Reload, Clear, Finish, Release, Allocate, Write, GiveUp, Retire, Move}
use Rattle.inv_rows.specs.model.Rounds.{index_of}
use Rattle.inv_rows.specs.model.Calls.{Task, Why, Opens, FollowsHead, Fills, ClearsNext, Clears, Finishes, GivesUp, Retires, Tidies, Advances, Releases, Phase, Idle, Runs, Scans, Works}
use Rattle.inv_rows.specs.model.World.{World}
use Rattle.inv_rows.specs.Shapes.Seats.{Run, PhaseFits, Seats}
use Rattle.inv_rows.specs.Covering.Requests.Deals.{is_quiet, is_open, asked_at, answered_with, taken_with, fits}
use Rattle.inv_rows.specs.Covering.Requests.Standing.{protect_role, move_role, role_of, Requests}
use Rattle.inv_rows.specs.Covering.Requests.Views.{Deal, Role, View as Asked}
use Rattle.inv_rows.specs.Covering.Requests.Views.Deal.{Quiet, Open, Answered, Passed, Taken}
use Rattle.inv_rows.specs.Rows.{Status, View}
use Rattle.inv_rows.specs.Covering.Held.{tries_protect, tries_base}
use Rattle.inv_rows.specs.Covering.Rests.{has_taken, vacant_opening, vacant_why, vacant, Vacant, Rests}
use Rattle.inv_rows.proofs.Covering.Held.{same_run}
use Rattle.inv_rows.proofs.Covering.Resting.{bare_own}
use Rattle.inv_rows.proofs.model.Facts.{first_of, no_truth}
pub use Rattle.inv_rows.proofs.Covering.Requests.Known.{fits_at}
use Rattle.inv_rows.proofs.Covering.Requests.Turns.{each_work_role}

-- the own request is published and not taken yet
abbrev pub in_slow : ProtectAt → Bool
in_slow (LoadClock tries) = false
in_slow (PublishEra era tries) = false
in_slow (LoadLink era tries) = false
in_slow (CheckClock era tries link) = false
in_slow PublishRequest = false
in_slow LoadOwnClock = true
in_slow (PublishHelper first era last) = true
in_slow (LoadOwnLink first era last) = true
in_slow (CheckOwnClock first era last link) = true
in_slow (AnswerOwn first era link) = true
in_slow (LoadAnswer first) = true
in_slow (TakeAnswer link era) = true
in_slow at = false

-- the seat that asks, at this index, for the link word of this number
pub record Asker (w : World) (k j word : ℕ) : Type 0 where
  pub why : Why
  pub aim : Aim
  pub root : Root
  pub steps : ℕ
  pub at : ProtectAt
  pub is : (w.seat k).phase ≡ Runs why (Protect aim j root steps at)
  pub slow : in_slow at ≡ true
  pub number : word ≡ link_number w.layout root

-- what a protection asks for
record Asks (layout : Layout) (index : ℕ) (root : Root) (at : ProtectAt) (j word : ℕ) : Type 0 where
  slow : in_slow at ≡ true
  place : index ≡ j
  number : word ≡ link_number layout root

quiet_asks : (d : Deal) (j word : ℕ) → is_quiet d ≡ true → asked_at j word d ≡ true → false ≡ true
quiet_asks Quiet j word q a = a
quiet_asks (Open t i n) j word q a = q
quiet_asks (Answered t i n l e m) j word q a = q
quiet_asks (Passed t i n l e) j word q a = q
quiet_asks (Taken t i n l e) j word q a = q

-- a deal asks at one index, for one word
one_index : (d : Deal) (index number j word : ℕ) → asked_at index number d ≡ true → asked_at j word d ≡ true → index ≡ j
one_index Quiet index number j word a b = absurd (cc)
one_index (Open t i n) index number j word a b = grind (arith, nat_tests)
one_index (Answered t i n l e m) index number j word a b = grind (arith, nat_tests)
one_index (Passed t i n l e) index number j word a b = grind (arith, nat_tests)
one_index (Taken t i n l e) index number j word a b = absurd (cc)

one_word : (d : Deal) (index number j word : ℕ) → asked_at index number d ≡ true → asked_at j word d ≡ true → word ≡ number
one_word Quiet index number j word a b = absurd (cc)
one_word (Open t i n) index number j word a b = grind (arith, nat_tests)
one_word (Answered t i n l e m) index number j word a b = grind (arith, nat_tests)
one_word (Passed t i n l e) index number j word a b = grind (arith, nat_tests)
one_word (Taken t i n l e) index number j word a b = absurd (cc)

pub answer_asks : (d : Deal) (j word link era : ℕ) → answered_with j word link era d ≡ true → asked_at j word d ≡ true
answer_asks Quiet j word link era h = absurd (cc)
answer_asks (Open t i n) j word link era h = absurd (cc)
answer_asks (Answered t i n l e m) j word link era h = grind (arith, nat_tests)
answer_asks (Passed t i n l e) j word link era h = grind (arith, nat_tests)
answer_asks (Taken t i n l e) j word link era h = absurd (cc)

taken_asks : (d : Deal) (index number link era j word : ℕ) → taken_with index number link era d ≡ true → asked_at j word d ≡ true → false ≡ true
taken_asks Quiet index number link era j word h a = a
taken_asks (Open t i n) index number link era j word h a = h
taken_asks (Answered t i n l e m) index number link era j word h a = h
taken_asks (Passed t i n l e) index number link era j word h a = h
taken_asks (Taken t i n l e) index number link era j word h a = a

slow_asks : (layout : Layout) (index : ℕ) (root : Root) (at : ProtectAt) (d : Deal) (j word : ℕ) → in_slow at ≡ true → asked_at index (link_number layout root) d ≡ true → asked_at j word d ≡ true → Asks layout index root at j word
slow_asks layout index root at d j word s f a = record { slow = s; place = one_index d index (link_number layout root) j word f a; number = one_word d index (link_number layout root) j word f a }

protect_asks : (layout : Layout) (index : ℕ) (root : Root) (at : ProtectAt) (d : Deal) (j word : ℕ) → fits (protect_role layout index root at) d ≡ true → asked_at j word d ≡ true → Asks layout index root at j word
protect_asks layout index root (LoadClock tries) d j word f a = absurd (no_truth (quiet_asks d j word f a))
protect_asks layout index root (PublishEra era tries) d j word f a = absurd (no_truth (quiet_asks d j word f a))
protect_asks layout index root (LoadLink era tries) d j word f a = absurd (no_truth (quiet_asks d j word f a))
protect_asks layout index root (CheckClock era tries link) d j word f a = absurd (no_truth (quiet_asks d j word f a))
protect_asks layout index root PublishRequest d j word f a = absurd (no_truth (quiet_asks d j word f a))
protect_asks layout index root LoadOwnClock d j word f a = slow_asks layout index root LoadOwnClock d j word refl f a
protect_asks layout index root (PublishHelper first era last) d j word f a = slow_asks layout index root (PublishHelper first era last) d j word refl f a
protect_asks layout index root (LoadOwnLink first era last) d j word f a = slow_asks layout index root (LoadOwnLink first era last) d j word refl f a
protect_asks layout index root (CheckOwnClock first era last link) d j word f a = slow_asks layout index root (CheckOwnClock first era last link) d j word refl f a
protect_asks layout index root (AnswerOwn first era link) d j word f a = slow_asks layout index root (AnswerOwn first era link) d j word refl f a
protect_asks layout index root (LoadAnswer first) d j word f a = slow_asks layout index root (LoadAnswer first) d j word refl (first_of (asked_at index (link_number layout root) d) (not (is_open d)) f) a
protect_asks layout index root (TakeAnswer link era) d j word f a = slow_asks layout index root (TakeAnswer link era) d j word refl (answer_asks d index (link_number layout root) link era f) a
protect_asks layout index root (WithdrawRequest link era) d j word f a = absurd (no_truth (taken_asks d index (link_number layout root) link era j word f a))
protect_asks layout index root (WithdrawHelper link era) d j word f a = absurd (no_truth (quiet_asks d j word f a))
protect_asks layout index root LoadWithin d j word f a = absurd (no_truth (quiet_asks d j word f a))
protect_asks layout index root (CheckUpper link) d j word f a = absurd (no_truth (quiet_asks d j word f a))
protect_asks layout index root (RaiseUpper era) d j word f a = absurd (no_truth (quiet_asks d j word f a))
protect_asks layout index root (ByHazard at) d j word f a = absurd (no_truth (quiet_asks d j word f a))

move_quiet : (layout : Layout) (at : MoveAt) (d : Deal) → fits (move_role layout at) d ≡ true → is_quiet d ≡ true
move_quiet layout (LoadEra helps) d f = f
move_quiet layout (LoadRequest e k shown) d f = f
move_quiet layout (ShowEra e k t j r) d f = f
move_quiet layout (LoadAsked e k t j r) d f = f
move_quiet layout (CheckEra e k t j r link) d f = f
move_quiet layout (AnswerAsked e k t j r link) d f = f
move_quiet layout (LoadReserved e k t j r link) d f = f
move_quiet layout (HandOver e k t j r link old) d f = f
move_quiet layout (HideEra e) d f = f
move_quiet layout (HideLate seen) d f = f
move_quiet layout (ExchangeClock e) d f = f

asks_of : (w : World) (k j word : ℕ) (why : Why) (aim : Aim) (index : ℕ) (root : Root) (steps : ℕ) (at : ProtectAt) → (w.seat k).phase ≡ Runs why (Protect aim index root steps at) → Asks w.layout index root at j word → Asker w k j word
asks_of w k j word why aim index root steps at e a =
    record { why = why; aim = aim; root = root; steps = steps; at = at; is = e ∙ ap (λ (n : ℕ). Runs why (Protect aim n root steps at)) a.place; slow = a.slow; number = a.number }

phase_asks : (w : World) (k j word : ℕ) (d : Deal) (phase : Phase) → (w.seat k).phase ≡ phase → fits (role_of w.layout phase) d ≡ true → asked_at j word d ≡ true → Asker w k j word
phase_asks w k j word d Idle e f a = absurd (no_truth (quiet_asks d j word f a))
phase_asks w k j word d (Scans later at) e f a = absurd (no_truth (quiet_asks d j word f a))
phase_asks w k j word d (Works work) e f a = absurd (no_truth (quiet_asks d j word (each_work_role w.layout work (λ (r : Role). fits r d ≡ true → is_quiet d ≡ true) (λ q. q) (λ from era q. q) f) a))
phase_asks w k j word d (Runs why (Begin at)) e f a = absurd (no_truth (quiet_asks d j word f a))
phase_asks w k j word d (Runs why (Protect aim index root steps at)) e f a = asks_of w k j word why aim index root steps at e (protect_asks w.layout index root at d j word f a)
phase_asks w k j word d (Runs why (Reload parent index slot era steps)) e f a = absurd (no_truth (quiet_asks d j word f a))
phase_asks w k j word d (Runs why (Clear rows index)) e f a = absurd (no_truth (quiet_asks d j word f a))
phase_asks w k j word d (Runs why Finish) e f a = absurd (no_truth (quiet_asks d j word f a))
phase_asks w k j word d (Runs why (Release index)) e f a = absurd (no_truth (quiet_asks d j word f a))
phase_asks w k j word d (Runs why (Allocate at)) e f a = absurd (no_truth (quiet_asks d j word f a))
phase_asks w k j word d (Runs why (Write slot row place)) e f a = absurd (no_truth (quiet_asks d j word f a))
phase_asks w k j word d (Runs why (GiveUp slot)) e f a = absurd (no_truth (quiet_asks d j word f a))
phase_asks w k j word d (Runs why (Retire at)) e f a = absurd (no_truth (quiet_asks d j word f a))
phase_asks w k j word d (Runs why (Move at)) e f a = absurd (no_truth (quiet_asks d j word (move_quiet w.layout at d f) a))

pub asker : (w : World) (z : Asked) (k j word : ℕ) → Requests w z → asked_at j word (z.deal k) ≡ true → Asker w k j word
asker w z k j word q a = phase_asks w k j word (z.deal k) (w.seat k).phase refl (fits_at w z k (w.seat k).phase q refl) a

-- nothing stands there
slow_taken : (at : ProtectAt) → in_slow at ≡ true → has_taken at ≡ false
slow_taken (WithdrawRequest link era) h = absurd (cc)
slow_taken (WithdrawHelper link era) h = absurd (cc)
slow_taken at h = refl

opens_rests : (task : Task) (index : ℕ) (taken : Bool) → taken ≡ false → index ≡ index_of task → vacant_opening task taken index ≡ true
opens_rests task index true t e = absurd (cc)
opens_rests task index false t e = bare_own task index (rw e (grind (arith, nat_tests)))

slow_rests : (layout : Layout) (why : Why) (aim : Aim) (index : ℕ) (root : Root) (steps : ℕ) (at : ProtectAt) (post : Post) → Run layout why (Protect aim index root steps at) post → in_slow at ≡ true → vacant_why why (Protect aim index root steps at) index ≡ true
slow_rests layout (Opens task) aim index root steps at post r h = opens_rests task index (has_taken at) (slow_taken at h) r.shape.at
slow_rests layout (FollowsHead head tail) aim index root steps at post r h = let q = r.shape.at in rw q refl
slow_rests layout (Fills task) aim index root steps at post r h = absurd (no_truth r.suited)
slow_rests layout (ClearsNext next) aim index root steps at post r h = absurd (no_truth r.suited)
slow_rests layout (Clears task next) aim index root steps at post r h = absurd (no_truth r.suited)
slow_rests layout (Finishes task next) aim index root steps at post r h = absurd (no_truth r.suited)
slow_rests layout (GivesUp answer) aim index root steps at post r h = absurd (no_truth r.suited)
slow_rests layout (Retires answer) aim index root steps at post r h = absurd (no_truth r.suited)
slow_rests layout (Tidies later) aim index root steps at post r h = absurd (no_truth r.suited)
slow_rests layout Advances aim index root steps at post r h = absurd (no_truth r.suited)
slow_rests layout (Releases key) aim index root steps at post r h = absurd (no_truth r.suited)

-- the shape of a machine
pub run_of : (w : World) (k : ℕ) (why : Why) (base : Base) → Seats w → (w.seat k).phase ≡ Runs why base → Run w.layout why base (w.seat k).post
run_of w k why base s e = subst (λ (p : Phase). PhaseFits w.layout (w.seat k).post p) e (s.fits k).phase

pub asker_rests : (w : World) (k j word : ℕ) → Seats w → Rests w → Asker w k j word → stands (w.seat k).post j ≡ None
asker_rests w k j word s r a =
    let v : Vacant (vacant_why a.why (Protect a.aim j a.root a.steps a.at)) (w.seat k).post = subst (λ (p : Phase). Vacant (vacant p) (w.seat k).post) a.is (r.vacant k) in
    v j (slow_rests w.layout a.why a.aim j a.root a.steps a.at (w.seat k).post (run_of w k a.why (Protect a.aim j a.root a.steps a.at) s a.is) a.slow)

-- and nothing is tried
slow_untried : (clock : ℕ) (status : ℕ → Status) (post : Post) (root : Root) (at : ProtectAt) (s : ℕ) → in_slow at ≡ true → tries_protect clock status post root at s ≡ false
slow_untried clock status post root (CheckClock era tries link) s h = absurd (cc)
slow_untried clock status post root (WithdrawRequest link era) s h = absurd (cc)
slow_untried clock status post root (WithdrawHelper link era) s h = absurd (cc)
slow_untried clock status post root (CheckUpper link) s h = absurd (cc)
slow_untried clock status post root at s h = refl

pub asker_untried : (w : World) (v : View) (k j word : ℕ) (why : Why) (base : Base) (s : ℕ) → Asker w k j word → (w.seat k).phase ≡ Runs why base → tries_base (w.mem Clock) v.status (w.seat k).post base s ≡ false
asker_untried w v k j word why base s a e =
    let q : Protect a.aim j a.root a.steps a.at ≡ base = same_run a.why why (Protect a.aim j a.root a.steps a.at) base (sym a.is ∙ e) in
    subst (λ (b : Base). tries_base (w.mem Clock) v.status (w.seat k).post b s ≡ false) q (slow_untried (w.mem Clock) v.status (w.seat k).post a.root a.at s a.slow)
