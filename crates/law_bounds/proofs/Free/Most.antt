-- What is left of a call where it loses no more than four rounds: a number by the setting.
use Rattle.std.proofs.Common.{ℕ, ◌≡◌, ◌≤◌, ◌+◌, ◌-◌, ◌*◌, Bool, true, false, List, length, arith}
use Rattle.std.proofs.lemmas.Bool.Decides.{nat_tests}
use Rattle.law_held.specs.inv.model.Calls.{Task, Gets, Changes, Holds, Enqueues, Dequeues, Next, Again, MakeRoom, Answering, Retiring, AfterScan, Answered, Repeated, Counted, Why, Opens, FollowsHead, Fills, ClearsNext, Clears, Finishes, GivesUp, Retires, Tidies, Advances, Releases, LetGo, Released, Rehold, Dropped, Parting, KeepAt, Loosens, LoadHeld, StoreHeld, Looks, Misses, HideSpan, MarkLeft, TakeList, MarkTaken, ScanAt, ReadGuard, GiveBack, GetAt, FindVersion, FindCount, FindKey, FindValue, ChangeKept, ChangeAt, LoadVersion, LoadCount, LoadKey, LoadValue, ExchangeRoot, EnqueueAt, LoadNumber, LoadNext, PassTail, ExchangeNext, ExchangeTail, DequeueAt, LoadTail, SwingTail, TakeNumber, TakeValue, ExchangeHead, Work, Getting, Changing, Enqueuing, Dequeuing, Keeping, Phase, Idle, Runs, Scans, Works}
use Rattle.law_held.specs.inv.model.Desks.{Desk}
use Rattle.law_held.specs.inv.model.Phases.{Aim, Alone, Follows, Tries, Endless, Failed, BeginAt, HazardAt, ProtectAt, AllocateAt, RetireAt, MoveAt, RowOf, MapRow, QueueRow, Base}
use Rattle.law_held.specs.inv.model.Phases.BeginAt.{LoadLower, PublishSpan}
use Rattle.law_held.specs.inv.model.Phases.HazardAt.{FirstLink, PublishLink, CheckLink}
use Rattle.law_held.specs.inv.model.Phases.ProtectAt.{LoadClock, PublishEra, LoadLink, CheckClock, PublishRequest, LoadOwnClock, PublishHelper, LoadOwnLink, CheckOwnClock, AnswerOwn, LoadAnswer, TakeAnswer, WithdrawRequest, WithdrawHelper, LoadWithin, CheckUpper, RaiseUpper, ByHazard}
use Rattle.law_held.specs.inv.model.Phases.AllocateAt.{LoadBirth, ClaimSlot, StoreLife}
use Rattle.law_held.specs.inv.model.Phases.RetireAt.{LoadLife, LoadRetire, StoreRetired}
use Rattle.law_held.specs.inv.model.Phases.MoveAt.{LoadEra, LoadRequest, ShowEra, LoadAsked, CheckEra, AnswerAsked, LoadReserved, HandOver, HideEra, HideLate, ExchangeClock}
use Rattle.law_held.specs.inv.model.Phases.Base.{Begin, Protect, Reload, Clear, Finish, Release, Allocate, Write, GiveUp, Retire, Move}
use Rattle.law_held.specs.inv.model.Rest.{aim_left, allocate_left, base_left, begin_left, change_left, closing_left, dequeue_left, ending_most, enqueue_left, fill_left, filling_left, get_left, has_walked, hazard_left, is_told, keep_left, later_left, let_left, lost_by, move_left, open_left, phase_left, protect_left, protect_most, retire_left, round_left, round_worth, rounds_left, scan_left, task_left, tries_left, walks_after, why_left, work_left}
use Rattle.law_held.specs.inv.model.Rounds.{taken_of}
use Rattle.law_held.specs.inv.model.WriteRow.{last_written}
use Rattle.law_held.specs.inv.model.declared.post.Post.{Post}
use Rattle.law_held.specs.inv.model.defs.declared.lifetime.Lifetime.{Lifetime}
use Rattle.law_held.specs.inv.model.words.declared.config.Config.{Config}
use Rattle.law_held.specs.inv.model.words.declared.layout.Layout.{Layout}
use Rattle.law_held.specs.inv.shapes.Seats.{PhaseFits, allocate_fits, base_fits}
use Rattle.law_held.specs.inv.shapes.Slots.{BaseIn, ChangeAtIn, GetIn, KeepIn, PhaseIn, RowIn, WorkIn}
use Rattle.law_held.proofs.inv.ends.Rest.Amounts.{opens_worth}
use Rattle.law_bounds.specs.Changes.{once_most, round_most}
use Rattle.law_bounds.proofs.Changes.Paid.{walks_few}

-- a task that loses four rounds at most, where so many are counted
pub record Small (c : Config) (r : ℕ) (task : Task) : Type 0 where
  pub few : (lost : ℕ) → r ≤ lost + 1 → rounds_left c task lost ≤ 5 * round_worth c

-- so it is with the task of a phase
abbrev pub later_small : Config → ℕ → AfterScan → Type 0
later_small c r (Answered answer) = Unit {0}
later_small c r (Repeated task) = Small c r task
later_small c r Counted = Unit {0}

abbrev pub let_small : Config → LetGo → Type 0
let_small c Released = Unit {0}
let_small c (Rehold key) = Small c 0 (Holds key)
let_small c (Dropped index) = Unit {0}
let_small c (Parting index) = Unit {0}

abbrev pub why_small : Config → ℕ → Why → Type 0
why_small c r (Opens task) = Small c r task
why_small c r (FollowsHead head tail) = Small c r Dequeues
why_small c r (Fills task) = Small c r task
why_small c r (ClearsNext next) = Small c r Dequeues
why_small c r (Clears task next) = Small c r task
why_small c r (Finishes task next) = Small c r task
why_small c r (GivesUp answer) = Unit {0}
why_small c r (Retires answer) = Unit {0}
why_small c r (Tidies later) = later_small c r later
why_small c r Advances = Unit {0}
why_small c r (Releases let_go) = let_small c let_go

abbrev pub keep_small : Config → KeepAt → Type 0
keep_small c (Loosens let_go) = let_small c let_go
keep_small c at = Unit {0}

abbrev pub work_small : Config → ℕ → Work → Type 0
work_small c r (Getting key at) = Small c r (Gets key)
work_small c r (Changing kept at) = Small c r (Changes kept)
work_small c r (Enqueuing kept at) = Small c r (Enqueues kept)
work_small c r (Dequeuing at) = Small c r Dequeues
work_small c r (Keeping at) = keep_small c at

abbrev pub phase_small : Config → ℕ → Phase → Type 0
phase_small c r Idle = Unit {0}
phase_small c r (Runs why base) = why_small c r why
phase_small c r (Scans later at) = later_small c r later
phase_small c r (Works work) = work_small c r work

-- what is left of it
task_few : (c : Config) (lives r : ℕ) (task : Task) (lost : ℕ) → Small c r task → r ≤ lost + 1 → lives ≤ c.slots + 1 → task_left c lives task lost ≤ 4 * round_most c + once_most c
task_few c lives r task lost s h l = let a = s.few lost h in let b = walks_few c lives (has_walked task) (taken_of task) l in omega (arith, a, b)

by_told : (r : ℕ) (told : Bool) → r ≤ lost_by r told + 1
by_told r true = omega arith
by_told r false = omega arith

less_one : (r : ℕ) → r ≤ r - 1 + 1
less_one r = omega arith

open_few : (c : Config) (task : Task) → open_left c task ≤ round_most c
open_few c task = let a = opens_worth c task in omega (arith, a)

round_few : (c : Config) (task : Task) → round_left c task ≤ round_most c
round_few c (Gets key) = omega arith
round_few c (Changes kept) = omega arith
round_few c (Holds key) = omega arith
round_few c (Enqueues kept) = omega arith
round_few c Dequeues = omega arith

-- machines
tries_few : (c : Config) (tries : Tries) (here : ℕ) → tries_left c tries here ≤ here + 10 + 3 * c.tries
tries_few c Endless here = omega arith
tries_few c (Failed count) here = omega arith

clock_few : (c : Config) (tries : Tries) → protect_left c (LoadClock tries) ≤ protect_most c
clock_few c Endless = omega arith
clock_few c (Failed count) = omega arith

turn_few : (c : Config) (first era link : ℕ) (last : Bool) → (protect_left c (PublishHelper first era last) ≤ 10) × (protect_left c (LoadOwnLink first era last) ≤ 9) × (protect_left c (CheckOwnClock first era last link) ≤ 8)
turn_few c first era link false = (omega arith, omega arith, omega arith)
turn_few c first era link true = (omega arith, omega arith, omega arith)

hazard_few : (at : HazardAt) → hazard_left at ≤ 3
hazard_few FirstLink = omega arith
hazard_few (PublishLink link) = omega arith
hazard_few (CheckLink link) = omega arith

protect_few : (c : Config) (at : ProtectAt) → protect_left c at ≤ protect_most c
protect_few c (LoadClock tries) = clock_few c tries
protect_few c (PublishEra era tries) = let a = tries_few c tries 3 in omega (arith, a)
protect_few c (LoadLink era tries) = let a = tries_few c tries 2 in omega (arith, a)
protect_few c (CheckClock era tries link) = let a = tries_few c tries 1 in omega (arith, a)
protect_few c PublishRequest = omega arith
protect_few c LoadOwnClock = omega arith
protect_few c (PublishHelper first era last) = let a = (turn_few c first era 0 last).0 in omega (arith, a)
protect_few c (LoadOwnLink first era last) = let a = (turn_few c first era 0 last).1 in omega (arith, a)
protect_few c (CheckOwnClock first era last link) = let a = (turn_few c first era link last).2 in omega (arith, a)
protect_few c (AnswerOwn first era link) = omega arith
protect_few c (LoadAnswer first) = omega arith
protect_few c (TakeAnswer link era) = omega arith
protect_few c (WithdrawRequest link era) = omega arith
protect_few c (WithdrawHelper link era) = omega arith
protect_few c LoadWithin = omega arith
protect_few c (CheckUpper link) = omega arith
protect_few c (RaiseUpper era) = omega arith
protect_few c (ByHazard at) = let a = hazard_few at in omega (arith, a)

aim_few : (aim : Aim) → aim_left aim ≤ 1
aim_few Alone = omega arith
aim_few Follows = omega arith

allocate_few : (c : Config) (at : AllocateAt) → allocate_fits c.slots at ≡ true → allocate_left at c ≤ c.slots + 3
allocate_few c LoadBirth h = omega arith
allocate_few c (ClaimSlot birth walk) h = let k : walk.left ≤ c.slots = grind (arith, nat_tests, h) in omega (arith, k)
allocate_few c (StoreLife birth slot) h = omega arith

written_few : (c : Config) (row : RowOf) → RowIn c row → last_written row ≤ 2 * c.pairs + 2
written_few c (MapRow version pairs) r = omega (arith, r)
written_few c (QueueRow number value) r = omega arith

retire_few : (at : RetireAt) → retire_left at ≤ 3
retire_few (LoadLife slot) = omega arith
retire_few (LoadRetire slot birth) = omega arith
retire_few (StoreRetired slot birth retire) = omega arith

move_few : (c : Config) (at : MoveAt) → move_left at c ≤ 7 * c.seats + 9
move_few c (LoadEra helps) = omega arith
move_few c (LoadRequest era seat shows) = omega arith
move_few c (ShowEra era seat tag index root) = omega arith
move_few c (LoadAsked era seat tag index root) = omega arith
move_few c (CheckEra era seat tag index root link) = omega arith
move_few c (AnswerAsked era seat tag index root link) = omega arith
move_few c (LoadReserved era seat tag index root link) = omega arith
move_few c (HandOver era seat tag index root link old) = omega arith
move_few c (HideEra era) = omega arith
move_few c (HideLate seen) = omega arith
move_few c (ExchangeClock era) = omega arith

begin_few : (at : BeginAt) → begin_left at ≤ 2
begin_few LoadLower = omega arith
begin_few (PublishSpan era) = omega arith

base_few : (layout : Layout) (base : Base) → base_fits layout.config base ≡ true → BaseIn layout base → base_left layout.config base ≤ round_most layout.config + once_most layout.config
base_few layout (Begin at) h b = let k = begin_few at in omega (arith, k)
base_few layout (Protect aim index root made at) h b = let a = protect_few layout.config at in let k = aim_few aim in omega (arith, a, k)
base_few layout (Reload parent index slot era made) h b = omega arith
base_few layout (Clear rows index) h b = omega arith
base_few layout Finish h b = omega arith
base_few layout (Release index) h b = omega arith
base_few layout (Allocate at) h b = let a = allocate_few layout.config at h in omega (arith, a)
base_few layout (Write slot row place) h b = let a = written_few layout.config row b.1 in omega (arith, a)
base_few layout (GiveUp slot) h b = omega arith
base_few layout (Retire at) h b = let a = retire_few at in omega (arith, a)
base_few layout (Move at) h b = let a = move_few layout.config at in omega (arith, a)

-- the most that is left
abbrev pub left_most : Config → ℕ
left_most c = 6 * round_most c + 3 * once_most c

closing_few : (c : Config) (lives r : ℕ) (task : Task) (next : Next) → Small c r task → lives ≤ c.slots + 1 → closing_left c lives r task next + 2 ≤ left_most c
closing_few c lives r task Again s l = let a = task_few c lives r task r s (omega arith) l in let b = open_few c task in omega (arith, a, b)
closing_few c lives r task MakeRoom s l = let a = task_few c lives r task (r - 1) s (less_one r) l in omega (arith, a, l)
closing_few c lives r task (Answering answer) s l = omega arith
closing_few c lives r task (Retiring slot answer) s l = omega (arith, l)

later_few : (c : Config) (lives r : ℕ) (later : AfterScan) → later_small c r later → lives ≤ c.slots + 1 → later_left c lives r later ≤ 4 * round_most c + once_most c
later_few c lives r (Answered answer) s l = omega arith
later_few c lives r (Repeated task) s l = task_few c lives r task (r - 1) s (less_one r) l
later_few c lives r Counted s l = omega arith

fill_few : (c : Config) (task : Task) → fill_left c task ≤ round_most c
fill_few c (Gets key) = omega arith
fill_few c (Changes kept) = omega arith
fill_few c (Holds key) = omega arith
fill_few c (Enqueues kept) = omega arith
fill_few c Dequeues = omega arith

after_few : (c : Config) (lives : ℕ) (walked : Bool) → lives ≤ c.slots + 1 → walks_after c lives walked + ending_most c lives ≤ once_most c
after_few c lives true l = omega (arith, l)
after_few c lives false l = omega (arith, l)

filling_few : (layout : Layout) (lives r : ℕ) (task : Task) (base : Base) → base_fits layout.config base ≡ true → BaseIn layout base → Small layout.config r task → lives ≤ layout.config.slots + 1 → filling_left layout.config lives r task base ≤ left_most layout.config
filling_few layout lives r task (Allocate at) h b s l =
    let a = allocate_few layout.config at h in let f = fill_few layout.config task in let g = after_few layout.config lives (has_walked task) l in let t = s.few (r - 1) (less_one r) in omega (arith, a, f, g, t)
filling_few layout lives r task base h b s l = let a = base_few layout base h b in let t = task_few layout.config lives r task (r - 1) s (less_one r) l in omega (arith, a, t)

let_few : (c : Config) (lives : ℕ) (let_go : LetGo) → let_small c let_go → lives ≤ c.slots + 1 → let_left c lives let_go + 2 ≤ left_most c
let_few c lives Released s l = omega arith
let_few c lives (Rehold key) s l = let a = task_few c lives 0 (Holds key) 0 s (omega arith) l in let b = open_few c (Holds key) in omega (arith, a, b)
let_few c lives (Dropped index) s l = omega arith
let_few c lives (Parting index) s l = omega arith

why_few : (layout : Layout) (lives r : ℕ) (base : Base) (why : Why) → base_fits layout.config base ≡ true → BaseIn layout base → why_small layout.config r why → lives ≤ layout.config.slots + 1 → why_left layout.config lives r base why ≤ left_most layout.config
why_few layout lives r base (Opens task) h b s l = let a = base_few layout base h b in let d = round_few layout.config task in let t = task_few layout.config lives r task (lost_by r (is_told base)) s (by_told r (is_told base)) l in omega (arith, a, d, t)
why_few layout lives r base (FollowsHead head tail) h b s l = let a = base_few layout base h b in let t = task_few layout.config lives r Dequeues (r - 1) s (less_one r) l in omega (arith, a, t)
why_few layout lives r base (Fills task) h b s l = filling_few layout lives r task base h b s l
why_few layout lives r base (ClearsNext next) h b s l = let t = closing_few layout.config lives r Dequeues next s l in omega (arith, t)
why_few layout lives r base (Clears task next) h b s l = let t = closing_few layout.config lives r task next s l in omega (arith, t)
why_few layout lives r base (Finishes task next) h b s l = let t = closing_few layout.config lives r task next s l in omega (arith, t)
why_few layout lives r base (GivesUp answer) h b s l = omega arith
why_few layout lives r base (Retires answer) h b s l = let a = base_few layout base h b in omega (arith, a, l)
why_few layout lives r base (Tidies later) h b s l = let a = base_few layout base h b in let t = later_few layout.config lives r later s l in omega (arith, a, t, l)
why_few layout lives r base Advances h b s l = let a = base_few layout base h b in omega (arith, a)
why_few layout lives r base (Releases let_go) h b s l = let t = let_few layout.config lives let_go s l in omega (arith, t)

get_few : (c : Config) (at : GetAt) → GetIn c at → get_left c at ≤ c.pairs + 5
get_few c (FindVersion slot) g = omega arith
get_few c (FindCount slot version) g = omega arith
get_few c (FindKey slot version count pair) g = let k = g.2 in omega (arith, k)
get_few c (FindValue slot version pair) g = omega arith

change_few : (c : Config) (kept : ChangeKept) (at : ChangeAt) (read : ℕ) → ChangeAtIn c kept at → change_left c read at ≤ 4 * c.pairs + 9
change_few c kept (LoadVersion slot) read g = omega arith
change_few c kept (LoadCount slot) read g = omega arith
change_few c kept (LoadKey slot count) read g = let k = g.2 in omega (arith, k)
change_few c kept (LoadValue slot count key) read g = let k = g.2 in omega (arith, k)
change_few c kept (ExchangeRoot slot) read g = omega arith

enqueue_few : (at : EnqueueAt) (more : ℕ) → enqueue_left at more ≤ 10 + more
enqueue_few LoadNumber more = omega arith
enqueue_few LoadNext more = omega arith
enqueue_few (PassTail next) more = omega arith
enqueue_few (ExchangeNext slot) more = omega arith
enqueue_few (ExchangeTail slot) more = omega arith

dequeue_few : (c : Config) (at : DequeueAt) → dequeue_left c at ≤ protect_most c + 9
dequeue_few c (LoadTail head) = omega arith
dequeue_few c (SwingTail head next) = omega arith
dequeue_few c (TakeNumber head next) = omega arith
dequeue_few c (TakeValue head next number) = omega arith
dequeue_few c (ExchangeHead head next number value) = omega arith

keep_few : (c : Config) (lives : ℕ) (at : KeepAt) → keep_small c at → KeepIn c at → lives ≤ c.slots + 1 → keep_left c lives at ≤ left_most c
keep_few c lives (Loosens let_go) s g l = let t = let_few c lives let_go s l in omega (arith, t)
keep_few c lives (LoadHeld from index) s g l = omega arith
keep_few c lives (StoreHeld from index era) s g l = omega arith
keep_few c lives (Looks index key at) s g l = let a = get_few c at g.1 in omega (arith, a)
keep_few c lives (Misses index) s g l = omega arith
keep_few c lives HideSpan s g l = omega arith
keep_few c lives MarkLeft s g l = omega arith
keep_few c lives (TakeList place) s g l = omega arith
keep_few c lives (MarkTaken place count) s g l = omega arith

work_few : (c : Config) (lives r : ℕ) (work : Work) → work_small c r work → WorkIn c work → lives ≤ c.slots + 1 → work_left c lives r work ≤ left_most c
work_few c lives r (Getting key at) s g l = let a = get_few c at g in let t = task_few c lives r (Gets key) (r - 1) s (less_one r) l in omega (arith, a, t)
work_few c lives r (Changing kept at) s g l = let a = change_few c kept at (length kept.pairs) g.1 in let t = task_few c lives r (Changes kept) (r - 1) s (less_one r) l in omega (arith, a, t)
work_few c lives r (Enqueuing kept at) s g l = let t = task_few c lives r (Enqueues kept) (r - 1) s (less_one r) l in let a = enqueue_few at (task_left c lives (Enqueues kept) (r - 1)) in omega (arith, a, t)
work_few c lives r (Dequeuing at) s g l = let a = dequeue_few c at in let t = task_few c lives r Dequeues (r - 1) s (less_one r) l in omega (arith, a, t)
work_few c lives r (Keeping at) s g l = keep_few c lives at s g l

scan_few : (c : Config) (lives : List Lifetime) (at : ScanAt) → length lives ≤ c.slots + 1 → scan_left c lives at ≤ once_most c
scan_few c lives (ReadGuard number) l = omega (arith, l)
scan_few c lives (GiveBack place slot) l = omega (arith, l)

pub phase_few : (layout : Layout) (desk : Desk) (post : Post) (r : ℕ) (lives : List Lifetime) (phase : Phase) → phase_small layout.config r phase → length lives ≤ layout.config.slots + 1 → PhaseFits layout post phase → PhaseIn layout desk phase → phase_left layout.config r lives phase ≤ left_most layout.config
phase_few layout desk post r lives Idle s l h p = omega arith
phase_few layout desk post r lives (Runs why base) s l h p = why_few layout (length lives) r base why h.fits p.1 s l
phase_few layout desk post r lives (Scans later at) s l h p = let a = scan_few layout.config lives at l in let t = later_few layout.config (length lives) r later s l in omega (arith, a, t)
phase_few layout desk post r lives (Works work) s l h p = work_few layout.config (length lives) r work s p l
