-- No machine tells that a guard is read or that a row is back, and only the last step of a retirement ends with a life.
use Rattle.std.proofs.Common.{ℕ, ◌≡◌, ◌+◌, Bool, true, false, List, Option, Some, None, refl}
use Rattle.laws.specs.defs.declared.event.Event.{Event}
use Rattle.laws.specs.defs.declared.event.Event.TheVariants as events
use Rattle.laws.specs.defs.declared.event.Root.{Root}
use Rattle.inv_all.specs.model.declared.post.Post.{Post}
use Rattle.inv_all.specs.model.Allocate as allocates
use Rattle.inv_all.specs.model.Desks.{Desk}
use Rattle.inv_all.specs.model.Locals.{told_by}
use Rattle.inv_all.specs.model.Machine as machine
use Rattle.inv_all.specs.model.Memory.{bump}
use Rattle.inv_all.specs.model.MoveClock as movers
use Rattle.inv_all.specs.model.Posts.{upper, reserves_helper}
use Rattle.inv_all.specs.model.Protect as protects
use Rattle.inv_all.specs.model.Steps as steps
use Rattle.inv_all.specs.model.Phases.{Aim, Alone, Follows, BeginAt, ProtectAt, AllocateAt, RetireAt, MoveAt, Walk, Base, Turn, Outcome, Goes, Ends}
use Rattle.inv_all.specs.model.Phases.BeginAt.{LoadLower, PublishSpan}
use Rattle.inv_all.specs.model.Phases.ProtectAt.{CheckClock, CheckOwnClock, AnswerOwn, WithdrawHelper, CheckUpper, ByHazard}
use Rattle.inv_all.specs.model.Phases.HazardAt.{FirstLink, PublishLink, CheckLink}
use Rattle.inv_all.specs.model.Phases.AllocateAt.{LoadBirth, ClaimSlot, StoreLife}
use Rattle.inv_all.specs.model.Phases.RetireAt.{LoadLife, LoadRetire, StoreRetired}
use Rattle.inv_all.specs.model.Phases.MoveAt.{LoadEra, CheckEra, AnswerAsked, LoadReserved, HandOver, ExchangeClock}
use Rattle.inv_all.specs.model.Phases.Base.{Begin, Protect, Reload, Allocate, Write, Retire, Move}
use Rattle.inv_all.specs.model.Calls.{Runs, Works, Why, Work}
use Rattle.inv_all.proofs.history.Passes.{is_quiet}
use Rattle.laws.specs.words.Packed.{read_reservation, reservation_word}
use Rattle.inv_all.specs.model.Phases.Ending.{Done, Protected, Followed, Allocated, Retired, Clocked}
use Rattle.inv_all.specs.model.SlowPath.{own_request, asking}
use Rattle.inv_all.specs.model.WriteRow.{last_written}
use Rattle.std.specs.Prelude.{◌==◌, ◌||◌, if◌then◌else◌}
use Rattle.inv_all.proofs.history.AllOf.{all_of, of_weaker}
use Rattle.inv_all.proofs.history.MayTell.{Tells, base_all, Passes, step_all, work_all}

-- no guard is read, and no row goes back
abbrev pub is_unread : Event → Bool
is_unread (events.Read guard span) = false
is_unread (events.Saw guard slot) = false
is_unread (events.Back slot) = false
is_unread event = true

-- and no call begins
abbrev pub is_calm : Event → Bool
is_calm (events.Read guard span) = false
is_calm (events.Saw guard slot) = false
is_calm (events.Back slot) = false
is_calm (events.Begin call) = false
is_calm event = true

abbrev All : List Event → Type 0
All told = all_of is_calm told ≡ true

tells_calm : (base : Base) (post : Post) (found : ℕ) (event : Event) → Tells base post found event → is_calm event ≡ true
tells_calm base post found (events.Read guard span) h = absurd (cc)
tells_calm base post found (events.Saw guard slot) h = absurd (cc)
tells_calm base post found (events.Back slot) h = absurd (cc)
tells_calm base post found (events.Begin call) h = absurd (cc)
tells_calm base post found event h = refl

-- what comes after a machine reads nothing either
quiet_calm : (event : Event) → is_quiet event ≡ true → is_calm event ≡ true
quiet_calm (events.Read guard span) h = absurd (cc)
quiet_calm (events.Saw guard slot) h = absurd (cc)
quiet_calm (events.Back slot) h = absurd (cc)
quiet_calm (events.Begin call) h = absurd (cc)
quiet_calm event h = refl

passes : Passes is_calm
passes = record { quiet = quiet_calm; clears = λ index slot. refl }

pub run_calm : (why : Why) (base : Base) (post : Post) (desk : Desk) (found : ℕ) → All (told_by (steps.phase_turn (Runs why base) post desk found))
run_calm why base post desk found = step_all is_calm passes (Runs why base) post desk found (base_all is_calm base post found (tells_calm base post found))

pub work_calm : (work : Work) (post : Post) (desk : Desk) (found : ℕ) → All (told_by (steps.phase_turn (Works work) post desk found))
work_calm work post desk found = step_all is_calm passes (Works work) post desk found (work_all is_calm (λ index slot. refl) (λ from index slot. refl) (λ seat index era. refl) (λ seat. refl) (λ seat index link. refl) work post)

calm_unread : (event : Event) → is_calm event ≡ true → is_unread event ≡ true
calm_unread (events.Read guard span) h = absurd (cc)
calm_unread (events.Saw guard slot) h = absurd (cc)
calm_unread (events.Back slot) h = absurd (cc)
calm_unread event h = refl

pub run_unread : (why : Why) (base : Base) (post : Post) (desk : Desk) (found : ℕ) → all_of is_unread (told_by (steps.phase_turn (Runs why base) post desk found)) ≡ true
run_unread why base post desk found = of_weaker is_calm is_unread (told_by (steps.phase_turn (Runs why base) post desk found)) calm_unread (run_calm why base post desk found)

pub work_unread : (work : Work) (post : Post) (desk : Desk) (found : ℕ) → all_of is_unread (told_by (steps.phase_turn (Works work) post desk found)) ≡ true
work_unread work post desk found = of_weaker is_calm is_unread (told_by (steps.phase_turn (Works work) post desk found)) calm_unread (work_calm work post desk found)

-- a machine that does not end with a life
abbrev pub keeps_list : Outcome → Bool
keeps_list (Goes base) = true
keeps_list (Ends Done) = true
keeps_list (Ends (Protected end)) = true
keeps_list (Ends (Followed end)) = true
keeps_list (Ends (Allocated end)) = true
keeps_list (Ends (Retired life)) = false
keeps_list (Ends (Clocked clock)) = true

either_keeps : (a b : Turn) (same : Bool) → keeps_list a.outcome ≡ true → keeps_list b.outcome ≡ true → keeps_list (if same then a else b).outcome ≡ true
either_keeps a b true h k = h
either_keeps a b false h k = k

concluded_keeps : (aim : Aim) (index : ℕ) (root : Root) (n link era : ℕ) (post : Post) (told : List Event) → keeps_list (protects.concluded aim index root n link era post told).outcome ≡ true
concluded_keeps Alone index root n link era post told = refl
concluded_keeps Follows index root n link era post told = either_keeps _ _ (link == 0) refl refl

protected_keeps : (aim : Aim) (index : ℕ) (root : Root) (n link era : ℕ) (post : Post) → keeps_list (protects.protected aim index root n link era post).outcome ≡ true
protected_keeps aim index root n link era post = concluded_keeps aim index root n link era (protects.held_post post index root link) (protects.told_held index root link n)

protect_keeps : (aim : Aim) (index : ℕ) (root : Root) (n : ℕ) (at : ProtectAt) (post : Post) (found : ℕ) → keeps_list (machine.protect_turn aim index root n at post found).outcome ≡ true
protect_keeps aim index root n (CheckClock era tries link) post found = either_keeps _ _ (found == era) (protected_keeps aim index root n link era post) refl
protect_keeps aim index root n (CheckOwnClock first era last link) post found = either_keeps _ _ (found == era) refl refl
protect_keeps aim index root n (AnswerOwn first era link) post found = either_keeps _ _ (found == own_request post index root) refl refl
protect_keeps aim index root n (WithdrawHelper link era) post found = concluded_keeps aim index root n link era post (reserves_helper post 0)
protect_keeps aim index root n (CheckUpper link) post found = either_keeps _ _ (found == upper post.span) (protected_keeps aim index root n link found post) refl
protect_keeps aim index root n (ByHazard FirstLink) post found = either_keeps _ _ (found == 0) (protected_keeps aim index root n found 0 post) refl
protect_keeps aim index root n (ByHazard (PublishLink link)) post found = refl
protect_keeps aim index root n (ByHazard (CheckLink link)) post found = either_keeps _ _ (found == link || found == 0) (protected_keeps aim index root n found 0 post) refl
protect_keeps aim index root n at post found = refl

hand_keeps : (era seat tag index old : ℕ) (post : Post) (same : Bool) → keeps_list (movers.after_hand_over era seat tag index old post same).outcome ≡ true
hand_keeps era seat tag index old post true = refl
hand_keeps era seat tag index old post false = refl

move_keeps : (at : MoveAt) (post : Post) (found : ℕ) → keeps_list (machine.move_turn at post found).outcome ≡ true
move_keeps (LoadEra helps) post found = either_keeps _ _ (found == post.layout.config.last_era) refl refl
move_keeps (CheckEra era seat tag index root link) post found = either_keeps _ _ (found == era) refl refl
move_keeps (AnswerAsked era seat tag index root link) post found = either_keeps _ _ (found == asking post.layout tag index root) refl refl
move_keeps (LoadReserved era seat tag index root link) post found = either_keeps _ _ ((read_reservation found).tag == tag) refl refl
move_keeps (HandOver era seat tag index root link old) post found = hand_keeps era seat tag index old post (found == reservation_word (record { era = old; tag = tag }))
move_keeps (ExchangeClock era) post found = either_keeps _ _ (found == era) refl refl
move_keeps at post found = refl

walking_keeps : (birth : ℕ) (post : Post) (x : Option Walk) → keeps_list (allocates.walking birth post x).outcome ≡ true
walking_keeps birth post None = refl
walking_keeps birth post (Some walk) = refl

allocate_keeps : (at : AllocateAt) (post : Post) (found : ℕ) → keeps_list (machine.allocate_turn at post found).outcome ≡ true
allocate_keeps LoadBirth post found = refl
allocate_keeps (ClaimSlot birth walk) post found = either_keeps _ _ (allocates.is_claimed found walk.slot) (walking_keeps birth post (allocates.walk_past post.layout.config.slots walk found)) refl
allocate_keeps (StoreLife birth slot) post found = refl

begin_keeps : (at : BeginAt) (post : Post) (found : ℕ) → keeps_list (machine.begin_turn at post found).outcome ≡ true
begin_keeps LoadLower post found = refl
begin_keeps (PublishSpan era) post found = refl

-- the last step of a retirement
abbrev pub is_store : RetireAt → Bool
is_store (LoadLife slot) = false
is_store (LoadRetire slot birth) = false
is_store (StoreRetired slot birth retire) = true

abbrev pub ends_life : Base → Bool
ends_life (Retire at) = is_store at
ends_life base = false

retire_keeps : (at : RetireAt) (post : Post) (found : ℕ) → is_store at ≡ false → keeps_list (machine.retire_turn at post found).outcome ≡ true
retire_keeps (LoadLife slot) post found h = refl
retire_keeps (LoadRetire slot birth) post found h = refl
retire_keeps (StoreRetired slot birth retire) post found h = absurd (cc)

pub base_keeps : (base : Base) (post : Post) (found : ℕ) → ends_life base ≡ false → keeps_list (machine.after base post found).outcome ≡ true
base_keeps (Begin at) post found h = begin_keeps at post found
base_keeps (Protect aim index root steps at) post found h = protect_keeps aim index root (bump steps) at post found
base_keeps (Reload parent index slot era steps) post found h = either_keeps _ _ (found == parent + 1) refl refl
base_keeps (Allocate at) post found h = allocate_keeps at post found
base_keeps (Write slot row place) post found h = either_keeps _ _ (place == last_written row) refl refl
base_keeps (Retire at) post found h = retire_keeps at post found h
base_keeps (Move at) post found h = move_keeps at post found
base_keeps base post found h = refl
