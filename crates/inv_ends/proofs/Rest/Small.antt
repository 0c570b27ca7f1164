-- No call has many steps left.
use Rattle.std.proofs.Common.{ℕ, ◌≡◌, ◌≤◌, ◌+◌, ◌*◌, ◌-◌, Bool, true, false, arith, sym, subst}
use Rattle.std.proofs.lemmas.Bool.Decides.{nat_tests}
use Rattle.inv_rows.specs.words.Place.{is_valid}
use Rattle.inv_rows.specs.words.Place.Place.{Clock}
use Rattle.inv_rows.specs.model.Phases.Base.{Move, Allocate, Begin, Clear, Finish, GiveUp, Protect, Release, Reload, Retire, Write}
use Rattle.inv_rows.proofs.model.Ranges.{bounds_of}
use Rattle.inv_rows.specs.model.Calls.{AfterScan, ChangeAt, ChangeKept, DequeueAt, EnqueueAt, GetAt, KeepAt, LetGo, Next, Phase, ScanAt, Task, Why, Work}
use Rattle.inv_rows.specs.model.Calls.AfterScan.{Answered, Counted, Repeated}
use Rattle.inv_rows.specs.model.Calls.ChangeAt.{ExchangeRoot, LoadCount, LoadKey, LoadValue, LoadVersion}
use Rattle.inv_rows.specs.model.Calls.DequeueAt.{ExchangeHead, LoadTail, SwingTail, TakeNumber, TakeValue}
use Rattle.inv_rows.specs.model.Calls.EnqueueAt.{ExchangeNext, ExchangeTail, LoadNext, LoadNumber, PassTail}
use Rattle.inv_rows.specs.model.Calls.GetAt.{FindCount, FindKey, FindValue, FindVersion}
use Rattle.inv_rows.specs.model.Calls.KeepAt.{HideSpan, LoadHeld, Looks, Loosens, MarkLeft, MarkTaken, Misses, StoreHeld, TakeList}
use Rattle.inv_rows.specs.model.Calls.LetGo.{Dropped, Parting, Rehold, Released}
use Rattle.inv_rows.specs.model.Calls.Next.{Again, Answering, MakeRoom, Retiring}
use Rattle.inv_rows.specs.model.Calls.Phase.{Idle, Runs, Scans, Works}
use Rattle.inv_rows.specs.model.Calls.ScanAt.{GiveBack, ReadGuard}
use Rattle.inv_rows.specs.model.Calls.Task.{Changes, Dequeues, Enqueues, Gets, Holds}
use Rattle.inv_rows.specs.model.Calls.Why.{Advances, Clears, ClearsNext, Fills, Finishes, FollowsHead, GivesUp, Opens, Releases, Retires, Tidies}
use Rattle.inv_rows.specs.model.Calls.Work.{Changing, Dequeuing, Enqueuing, Getting, Keeping}
use Rattle.inv_rows.specs.model.Desks.{Desk}
use Rattle.inv_rows.specs.model.Guards.{guards, guards_by}
use Rattle.inv_rows.specs.model.Locals.{Local}
use Rattle.inv_rows.specs.model.Phases.{Aim, AllocateAt, Base, BeginAt, HazardAt, MoveAt, ProtectAt, RetireAt, RowOf, Tries}
use Rattle.inv_rows.specs.model.Phases.Aim.{Alone, Follows}
use Rattle.inv_rows.specs.model.Phases.AllocateAt.{ClaimSlot, LoadBirth, StoreLife}
use Rattle.inv_rows.specs.model.Phases.BeginAt.{LoadLower, PublishSpan}
use Rattle.inv_rows.specs.model.Phases.MoveAt.{AnswerAsked, CheckEra, ExchangeClock, HandOver, HideEra, HideLate, LoadAsked, LoadEra, LoadRequest, LoadReserved, ShowEra}
use Rattle.inv_rows.specs.model.Phases.ProtectAt.{AnswerOwn, ByHazard, CheckClock, CheckOwnClock, CheckUpper, LoadAnswer, LoadClock, LoadLink, LoadOwnClock, LoadOwnLink, LoadWithin, PublishEra, PublishHelper, PublishRequest, RaiseUpper, TakeAnswer, WithdrawHelper, WithdrawRequest}
use Rattle.inv_rows.specs.model.Phases.HazardAt.{CheckLink, FirstLink, PublishLink}
use Rattle.inv_rows.specs.model.Phases.RetireAt.{LoadLife, LoadRetire, StoreRetired}
use Rattle.inv_rows.specs.model.Phases.RowOf.{MapRow, QueueRow}
use Rattle.inv_rows.specs.model.Phases.Tries.{Endless, Failed}
use Rattle.inv_rows.specs.model.Rest.{aim_left, gets_most, hazard_left, allocate_left, base_left, base_seen, begin_left, change_left, closing_left, dequeue_left, enqueue_left, fill_left, filling_left, get_left, has_walked, is_told, keep_left, later_left, let_left, lost_by, move_left, phase_left, phase_seen, protect_left, protect_seen, rest, rest_of, retire_left, room_most, round_left, round_worth, rounds_left, rounds_most, scan_left, span_seen, task_left, tries_left, walks_after, walks_by, why_left, work_left}
use Rattle.inv_rows.specs.model.Rounds.{taken_of}
use Rattle.inv_rows.specs.model.World.{step}
use Rattle.inv_rows.specs.model.WriteRow.{last_written}
use Rattle.inv_rows.specs.model.declared.post.Post.{Post}
use Rattle.inv_rows.specs.defs.declared.lifetime.Lifetime.{Lifetime}
use Rattle.inv_rows.proofs.Shapes.Frame.{seat_stays}
use Rattle.inv_rows.specs.Shapes.Seats.{PhaseFits, allocate_fits, base_fits}
use Rattle.inv_rows.specs.Shapes.Slots.{BaseIn, ChangeAtIn, GetIn, KeepIn, PhaseIn, RowIn, WorkIn}
use Rattle.inv_rows.specs.Covering.Requests.Roles.{shows}
use Rattle.inv_ends.proofs.Rest.Machines.{seen_rises}
use Rattle.inv_ends.specs.Falls.{RestIsSmall, RestStays}
use Rattle.inv_rows.specs.words.declared.config.Config.{Config}
use Rattle.inv_rows.specs.words.declared.config.SchemeKind.{SchemeKind}
use Rattle.inv_rows.specs.words.declared.config.SchemeKind.TheVariants.{He, Hp, Ibr, Wfe}
use Rattle.inv_rows.specs.words.declared.layout.Layout.{Layout}
use Rattle.std.specs.Prelude.{List, length, Option, Some, None}
use Rattle.inv_rows.specs.words.Schemes.{publishes_rows}

-- the numbers of a setting
pub record Few (c : Config) : Type 0 where
  pub seats : c.seats ≤ 64
  pub indexes : c.indexes ≤ 8
  pub slots : c.slots ≤ 65536
  pub tries : c.tries ≤ 64
  pub eras : c.last_era ≤ 4294967295
  pub versions : c.last_version ≤ 281474976710656
  pub pairs : c.pairs ≤ 14

pub few_of : (layout : Layout) → is_valid layout ≡ true → Few layout.config
few_of layout v =
    let b = bounds_of layout v in
    record {
      seats = b.seats.1;
      indexes = b.indexes.1;
      slots = b.slots.1;
      tries = b.tries.1;
      eras = b.eras.1;
      versions = b.versions.1;
      pairs = b.pairs.1;
    }

times_less : (a b w v : ℕ) → a ≤ b → w ≤ v → a * w ≤ b * v
times_less a b w v h k = grind (arith, h, k)

scheme_few : (scheme : SchemeKind) (c : Config) → Few c → guards_by scheme c ≤ 576
scheme_few He c f = let h = times_less c.seats 64 c.indexes 8 f.seats f.indexes in omega (arith, h)
scheme_few Ibr c f = let h = f.seats in omega (arith, h)
scheme_few Hp c f = let h = times_less c.seats 64 c.indexes 8 f.seats f.indexes in omega (arith, h)
scheme_few Wfe c f = let h = times_less c.seats 64 c.indexes 8 f.seats f.indexes in let k = f.seats in omega (arith, h, k)

guards_few : (c : Config) → Few c → guards c ≤ 576
guards_few c f = scheme_few c.scheme c f

gets_few : (c : Config) (rows : Bool) → Few c → gets_most c rows + 1 ≤ 562949953421314
gets_few c false f = omega arith
gets_few c true f = let h = f.versions in omega (arith, h)

rounds_few : (c : Config) (task : Task) → Few c → rounds_most c task + 1 ≤ 562949953421314
rounds_few c (Gets key) f = gets_few c (publishes_rows c.scheme) f
rounds_few c (Changes kept) f = let h = f.versions in omega (arith, h)
rounds_few c (Holds key) f = gets_few c (publishes_rows c.scheme) f
rounds_few c (Enqueues kept) f = let h = f.versions in omega (arith, h)
rounds_few c Dequeues f = let h = f.versions in omega (arith, h)

worth_few : (c : Config) → Few c → round_worth c ≤ 488
worth_few c f = let h = f.tries in let k = f.pairs in omega (arith, h, k)

rounds_small : (c : Config) (task : Task) (lost : ℕ) → Few c → rounds_left c task lost ≤ 274719577269601232
rounds_small c task lost f =
    let r = rounds_few c task f in
    times_less (rounds_most c task + 1 - lost) 562949953421314 (round_worth c) 488 (omega (arith, r)) (worth_few c f)

walks_small : (c : Config) (lives : ℕ) (walked : Bool) (taken : Option ℕ) → Few c → lives ≤ 65537 → walks_by c lives walked taken ≤ 300000
walks_small c lives walked (Some slot) f l = omega arith
walks_small c lives true None f l = let h = f.slots in omega (arith, h)
walks_small c lives false None f l = let h = f.slots in let g = guards_few c f in let k = f.seats in omega (arith, h, g, k, l)

room_small : (c : Config) (lives : ℕ) → Few c → lives ≤ 65538 → room_most c lives ≤ 70000
room_small c lives f l = let g = guards_few c f in let k = f.seats in omega (arith, g, k, l)

pub task_small : (c : Config) (lives : ℕ) (task : Task) (lost : ℕ) → Few c → lives ≤ 65537 → task_left c lives task lost ≤ 274719577269980000
task_small c lives task lost f l =
    let a = rounds_small c task lost f in
    let b = walks_small c lives (has_walked task) (taken_of task) f l in
    let r = room_small c (lives + 1) f (omega (arith, l)) in
    omega (arith, a, b, r)

tries_small : (c : Config) (tries : Tries) (here : ℕ) → Few c → tries_left c tries here ≤ here + 202
tries_small c Endless here f = omega arith
tries_small c (Failed count) here f = let h = f.tries in omega (arith, h)

clock_small : (c : Config) (tries : Tries) → Few c → protect_left c (LoadClock tries) ≤ 206
clock_small c Endless f = omega arith
clock_small c (Failed count) f = let h = f.tries in omega (arith, h)

turn_small : (c : Config) (first era link : ℕ) (last : Bool) → (protect_left c (PublishHelper first era last) ≤ 10) × (protect_left c (LoadOwnLink first era last) ≤ 9) × (protect_left c (CheckOwnClock first era last link) ≤ 8)
turn_small c first era link false = (omega arith, omega arith, omega arith)
turn_small c first era link true = (omega arith, omega arith, omega arith)

hazard_small : (at : HazardAt) → hazard_left at ≤ 206
hazard_small FirstLink = omega arith
hazard_small (PublishLink link) = omega arith
hazard_small (CheckLink link) = omega arith

protect_small : (c : Config) (at : ProtectAt) → Few c → protect_left c at ≤ 206
protect_small c (LoadClock tries) f = clock_small c tries f
protect_small c (PublishEra era tries) f = let h = tries_small c tries 3 f in omega (arith, h)
protect_small c (LoadLink era tries) f = let h = tries_small c tries 2 f in omega (arith, h)
protect_small c (CheckClock era tries link) f = let h = tries_small c tries 1 f in omega (arith, h)
protect_small c PublishRequest f = omega arith
protect_small c LoadOwnClock f = omega arith
protect_small c (PublishHelper first era last) f = let h = (turn_small c first era 0 last).0 in omega (arith, h)
protect_small c (LoadOwnLink first era last) f = let h = (turn_small c first era 0 last).1 in omega (arith, h)
protect_small c (CheckOwnClock first era last link) f = let h = (turn_small c first era link last).2 in omega (arith, h)
protect_small c (AnswerOwn first era link) f = omega arith
protect_small c (LoadAnswer first) f = omega arith
protect_small c (TakeAnswer link era) f = omega arith
protect_small c (WithdrawRequest link era) f = omega arith
protect_small c (WithdrawHelper link era) f = omega arith
protect_small c LoadWithin f = omega arith
protect_small c (CheckUpper link) f = omega arith
protect_small c (RaiseUpper era) f = omega arith
protect_small c (ByHazard at) f = hazard_small at

aim_small : (aim : Aim) → aim_left aim ≤ 1
aim_small Alone = omega arith
aim_small Follows = omega arith

allocate_small : (c : Config) (at : AllocateAt) → Few c → allocate_fits c.slots at ≡ true → allocate_left at c ≤ 65540
allocate_small c LoadBirth f h = let s = f.slots in omega (arith, s)
allocate_small c (ClaimSlot birth walk) f h = let s = f.slots in let k : walk.left ≤ c.slots = grind (arith, nat_tests, h) in omega (arith, s, k)
allocate_small c (StoreLife birth slot) f h = omega arith

written_small : (c : Config) (row : RowOf) → Few c → RowIn c row → last_written row ≤ 30
written_small c (MapRow version pairs) f r = let p = f.pairs in omega (arith, p, r)
written_small c (QueueRow number value) f r = omega arith

retire_small : (at : RetireAt) → retire_left at ≤ 3
retire_small (LoadLife slot) = omega arith
retire_small (LoadRetire slot birth) = omega arith
retire_small (StoreRetired slot birth retire) = omega arith

move_small : (c : Config) (at : MoveAt) → Few c → move_left at c ≤ 460
move_small c (LoadEra helps) f = let s = f.seats in omega (arith, s)
move_small c (LoadRequest era seat shows) f = let s = f.seats in omega (arith, s)
move_small c (ShowEra era seat tag index root) f = let s = f.seats in omega (arith, s)
move_small c (LoadAsked era seat tag index root) f = let s = f.seats in omega (arith, s)
move_small c (CheckEra era seat tag index root link) f = let s = f.seats in omega (arith, s)
move_small c (AnswerAsked era seat tag index root link) f = let s = f.seats in omega (arith, s)
move_small c (LoadReserved era seat tag index root link) f = let s = f.seats in omega (arith, s)
move_small c (HandOver era seat tag index root link old) f = let s = f.seats in omega (arith, s)
move_small c (HideEra era) f = omega arith
move_small c (HideLate seen) f = omega arith
move_small c (ExchangeClock era) f = omega arith

begin_small : (at : BeginAt) → begin_left at ≤ 2
begin_small LoadLower = omega arith
begin_small (PublishSpan era) = omega arith

base_small : (layout : Layout) (base : Base) → Few layout.config → base_fits layout.config base ≡ true → BaseIn layout base → base_left layout.config base ≤ 65540
base_small layout (Begin at) f h b = let s = f.tries in let k = begin_small at in omega (arith, s, k)
base_small layout (Protect aim index root steps at) f h b = let s = protect_small layout.config at f in let k = aim_small aim in omega (arith, s, k)
base_small layout (Reload parent index slot era steps) f h b = omega arith
base_small layout (Clear rows index) f h b = omega arith
base_small layout Finish f h b = omega arith
base_small layout (Release index) f h b = omega arith
base_small layout (Allocate at) f h b = allocate_small layout.config at f h
base_small layout (Write slot row place) f h b = let w = written_small layout.config row f b.1 in omega (arith, w)
base_small layout (GiveUp slot) f h b = omega arith
base_small layout (Retire at) f h b = let r = retire_small at in omega (arith, r)
base_small layout (Move at) f h b = let m = move_small layout.config at f in omega (arith, m)

round_small : (c : Config) (task : Task) → Few c → round_left c task ≤ 215
round_small c (Gets key) f = let p = f.pairs in omega (arith, p)
round_small c (Changes kept) f = let p = f.pairs in omega (arith, p)
round_small c (Holds key) f = omega arith
round_small c (Enqueues kept) f = omega arith
round_small c Dequeues f = let t = f.tries in omega (arith, t)

closing_small : (c : Config) (lives rounds : ℕ) (task : Task) (next : Next) → Few c → lives ≤ 65537 → closing_left c lives rounds task next ≤ 274719577270100000
closing_small c lives rounds task Again f l = let t = task_small c lives task rounds f l in let r = round_small c task f in let s = f.tries in omega (arith, t, r, s)
closing_small c lives rounds task MakeRoom f l = let t = task_small c lives task (rounds - 1) f l in let r = room_small c lives f (omega (arith, l)) in omega (arith, t, r)
closing_small c lives rounds task (Answering answer) f l = omega arith
closing_small c lives rounds task (Retiring slot answer) f l = let r = room_small c (lives + 1) f (omega (arith, l)) in omega (arith, r)

later_small : (c : Config) (lives rounds : ℕ) (later : AfterScan) → Few c → lives ≤ 65537 → later_left c lives rounds later ≤ 274719577269980000
later_small c lives rounds (Answered answer) f l = omega arith
later_small c lives rounds (Repeated task) f l = task_small c lives task (rounds - 1) f l
later_small c lives rounds Counted f l = omega arith

fill_small : (c : Config) (task : Task) → Few c → fill_left c task ≤ 40
fill_small c (Gets key) f = omega arith
fill_small c (Changes kept) f = let p = f.pairs in omega (arith, p)
fill_small c (Holds key) f = omega arith
fill_small c (Enqueues kept) f = omega arith
fill_small c Dequeues f = omega arith

after_small : (c : Config) (lives : ℕ) (walked : Bool) → Few c → lives ≤ 65537 → walks_after c lives walked ≤ 140000
after_small c lives true f l = omega arith
after_small c lives false f l = let s = f.slots in let r = room_small c lives f (omega (arith, l)) in omega (arith, s, r)

filling_small : (layout : Layout) (lives rounds : ℕ) (task : Task) (base : Base) → Few layout.config → base_left layout.config base ≤ 65540 → lives ≤ 65537 → filling_left layout.config lives rounds task base ≤ 274719577270300000
filling_small layout lives rounds task (Allocate at) f b l =
    let a = fill_small layout.config task f in let r = rounds_small layout.config task (rounds - 1) f in let w = after_small layout.config lives (has_walked task) f l in let e = room_small layout.config (lives + 1) f (omega (arith, l)) in omega (arith, a, b, r, w, e)
filling_small layout lives rounds task (Begin at) f b l = let t = task_small layout.config lives task (rounds - 1) f l in omega (arith, b, t)
filling_small layout lives rounds task (Protect aim index root steps at) f b l = let t = task_small layout.config lives task (rounds - 1) f l in omega (arith, b, t)
filling_small layout lives rounds task (Reload parent index slot era steps) f b l = let t = task_small layout.config lives task (rounds - 1) f l in omega (arith, b, t)
filling_small layout lives rounds task (Clear rows index) f b l = let t = task_small layout.config lives task (rounds - 1) f l in omega (arith, b, t)
filling_small layout lives rounds task Finish f b l = let t = task_small layout.config lives task (rounds - 1) f l in omega (arith, b, t)
filling_small layout lives rounds task (Release index) f b l = let t = task_small layout.config lives task (rounds - 1) f l in omega (arith, b, t)
filling_small layout lives rounds task (Write slot row place) f b l = let t = task_small layout.config lives task (rounds - 1) f l in omega (arith, b, t)
filling_small layout lives rounds task (GiveUp slot) f b l = let t = task_small layout.config lives task (rounds - 1) f l in omega (arith, b, t)
filling_small layout lives rounds task (Retire at) f b l = let t = task_small layout.config lives task (rounds - 1) f l in omega (arith, b, t)
filling_small layout lives rounds task (Move at) f b l = let t = task_small layout.config lives task (rounds - 1) f l in omega (arith, b, t)

let_small : (c : Config) (lives : ℕ) (let_go : LetGo) → Few c → lives ≤ 65537 → let_left c lives let_go ≤ 274719577270200000
let_small c lives Released f l = omega arith
let_small c lives (Rehold key) f l = let t = task_small c lives (Holds key) 0 f l in let s = f.tries in omega (arith, t, s)
let_small c lives (Dropped index) f l = omega arith
let_small c lives (Parting index) f l = omega arith

why_small : (layout : Layout) (lives rounds : ℕ) (base : Base) (why : Why) → Few layout.config → base_left layout.config base ≤ 65540 → lives ≤ 65537 → why_left layout.config lives rounds base why ≤ 274719577270300000
why_small layout lives rounds base (Opens task) f b l = let t = task_small layout.config lives task (lost_by rounds (is_told base)) f l in let r = round_small layout.config task f in omega (arith, b, t, r)
why_small layout lives rounds base (FollowsHead head tail) f b l = let t = task_small layout.config lives Dequeues (rounds - 1) f l in omega (arith, b, t)
why_small layout lives rounds base (Fills task) f b l = filling_small layout lives rounds task base f b l
why_small layout lives rounds base (ClearsNext next) f b l = let t = closing_small layout.config lives rounds Dequeues next f l in omega (arith, t)
why_small layout lives rounds base (Clears task next) f b l = let t = closing_small layout.config lives rounds task next f l in omega (arith, t)
why_small layout lives rounds base (Finishes task next) f b l = let t = closing_small layout.config lives rounds task next f l in omega (arith, t)
why_small layout lives rounds base (GivesUp answer) f b l = omega arith
why_small layout lives rounds base (Retires answer) f b l = let r = room_small layout.config (lives + 1) f (omega (arith, l)) in omega (arith, b, r)
why_small layout lives rounds base (Tidies later) f b l = let t = later_small layout.config lives rounds later f l in let g = guards_few layout.config f in omega (arith, b, t, g, l)
why_small layout lives rounds base Advances f b l = omega (arith, b)
why_small layout lives rounds base (Releases let_go) f b l = let t = let_small layout.config lives let_go f l in omega (arith, t)

get_small : (c : Config) (at : GetAt) → Few c → GetIn c at → get_left c at ≤ 30
get_small c (FindVersion slot) f g = let p = f.pairs in omega (arith, p)
get_small c (FindCount slot version) f g = let p = f.pairs in omega (arith, p)
get_small c (FindKey slot version count pair) f g = let p = f.pairs in let k = g.2 in omega (arith, p, k)
get_small c (FindValue slot version pair) f g = omega arith

change_small : (c : Config) (kept : ChangeKept) (at : ChangeAt) (read : ℕ) → Few c → ChangeAtIn c kept at → change_left c read at ≤ 80
change_small c kept (LoadVersion slot) read f g = let p = f.pairs in omega (arith, p)
change_small c kept (LoadCount slot) read f g = let p = f.pairs in omega (arith, p)
change_small c kept (LoadKey slot count) read f g = let p = f.pairs in let k = g.2 in omega (arith, p, k)
change_small c kept (LoadValue slot count key) read f g = let p = f.pairs in let k = g.2 in omega (arith, p, k)
change_small c kept (ExchangeRoot slot) read f g = omega arith

enqueue_small : (at : EnqueueAt) (more : ℕ) → enqueue_left at more ≤ 10 + more
enqueue_small LoadNumber more = omega arith
enqueue_small LoadNext more = omega arith
enqueue_small (PassTail next) more = omega arith
enqueue_small (ExchangeNext slot) more = omega arith
enqueue_small (ExchangeTail slot) more = omega arith

dequeue_small : (c : Config) (at : DequeueAt) → Few c → dequeue_left c at ≤ 215
dequeue_small c (LoadTail head) f = let t = f.tries in omega (arith, t)
dequeue_small c (SwingTail head next) f = omega arith
dequeue_small c (TakeNumber head next) f = omega arith
dequeue_small c (TakeValue head next number) f = omega arith
dequeue_small c (ExchangeHead head next number value) f = omega arith

keep_small : (c : Config) (lives : ℕ) (at : KeepAt) → Few c → lives ≤ 65537 → KeepIn c at → keep_left c lives at ≤ 274719577270300000
keep_small c lives (Loosens let_go) f l g = let t = let_small c lives let_go f l in omega (arith, t)
keep_small c lives (LoadHeld from index) f l g = omega arith
keep_small c lives (StoreHeld from index era) f l g = omega arith
keep_small c lives (Looks index key at) f l g = let a = get_small c at f g.1 in omega (arith, a)
keep_small c lives (Misses index) f l g = omega arith
keep_small c lives HideSpan f l g = omega arith
keep_small c lives MarkLeft f l g = omega arith
keep_small c lives (TakeList place) f l g = omega arith
keep_small c lives (MarkTaken place count) f l g = omega arith

work_small : (c : Config) (lives rounds : ℕ) (work : Work) → Few c → lives ≤ 65537 → WorkIn c work → work_left c lives rounds work ≤ 274719577270300000
work_small c lives rounds (Getting key at) f l g = let a = get_small c at f g in let t = task_small c lives (Gets key) (rounds - 1) f l in omega (arith, a, t)
work_small c lives rounds (Changing kept at) f l g = let a = change_small c kept at (length kept.pairs) f g.1 in let t = task_small c lives (Changes kept) (rounds - 1) f l in omega (arith, a, t)
work_small c lives rounds (Enqueuing kept at) f l g = let t = task_small c lives (Enqueues kept) (rounds - 1) f l in let a = enqueue_small at (task_left c lives (Enqueues kept) (rounds - 1)) in omega (arith, a, t)
work_small c lives rounds (Dequeuing at) f l g = let a = dequeue_small c at f in let t = task_small c lives Dequeues (rounds - 1) f l in omega (arith, a, t)
work_small c lives rounds (Keeping at) f l g = keep_small c lives at f l g

scan_small : (c : Config) (lives : List Lifetime) (at : ScanAt) → Few c → length lives ≤ 65537 → scan_left c lives at ≤ 70000
scan_small c lives (ReadGuard number) f l = let g = guards_few c f in omega (arith, g, l)
scan_small c lives (GiveBack place slot) f l = omega (arith, l)

phase_small : (layout : Layout) (desk : Desk) (post : Post) (rounds : ℕ) (lives : List Lifetime) (phase : Phase) → Few layout.config → length lives ≤ 65537 → PhaseFits layout post phase → PhaseIn layout desk phase → phase_left layout.config rounds lives phase ≤ 274719577270400000
phase_small layout desk post rounds lives Idle f l h p = omega arith
phase_small layout desk post rounds lives (Runs why base) f l h p = let b = base_small layout base f h.fits p.1 in let w = why_small layout (length lives) rounds base why f b l in omega (arith, w)
phase_small layout desk post rounds lives (Scans later at) f l h p = let s = scan_small layout.config lives at f l in let t = later_small layout.config (length lives) rounds later f l in omega (arith, s, t)
phase_small layout desk post rounds lives (Works work) f l h p = let w = work_small layout.config (length lives) rounds work f l p in omega (arith, w)

pub rest_small : RestIsSmall
rest_small w k v s n l =
    let f = few_of w.layout v in
    let a = f.slots in let e = f.eras in
    let p = phase_small w.layout (w.seat k).desk (w.seat k).post (w.seat k).rounds (w.seat k).desk.list (w.seat k).phase f (omega (arith, l, a)) (s.fits k).phase (n.seats k).phase in
    omega (arith, p, e)

-- a seat sees more of the clock as it rises

protect_later : (at : ProtectAt) (old new : ℕ) → old ≤ new → protect_seen at old ≤ protect_seen at new
protect_later (LoadClock tries) old new h = h
protect_later (PublishEra era tries) old new h = omega arith
protect_later (LoadLink era tries) old new h = omega arith
protect_later (CheckClock era tries link) old new h = omega arith
protect_later PublishRequest old new h = h
protect_later LoadOwnClock old new h = h
protect_later (PublishHelper first era last) old new h = h
protect_later (LoadOwnLink first era last) old new h = h
protect_later (CheckOwnClock first era last link) old new h = h
protect_later (AnswerOwn first era link) old new h = h
protect_later (LoadAnswer first) old new h = h
protect_later (TakeAnswer link era) old new h = h
protect_later (WithdrawRequest link era) old new h = h
protect_later (WithdrawHelper link era) old new h = h
protect_later LoadWithin old new h = h
protect_later (CheckUpper link) old new h = h
protect_later (RaiseUpper era) old new h = omega arith
protect_later (ByHazard at) old new h = h

base_later : (base : Base) (old new : ℕ) → old ≤ new → base_seen base old ≤ base_seen base new
base_later (Begin LoadLower) old new h = h
base_later (Begin (PublishSpan era)) old new h = omega arith
base_later (Protect aim index root steps at) old new h = protect_later at old new h
base_later base old new h = h

phase_later : (phase : Phase) (old new : ℕ) → old ≤ new → phase_seen phase old ≤ phase_seen phase new
phase_later Idle old new h = h
phase_later (Runs why base) old new h = base_later base old new h
phase_later (Scans later at) old new h = h
phase_later (Works work) old new h = h

pub rest_stays : RestStays
rest_stays w i k e h =
    let s = phase_later (w.seat k).phase (span_seen (w.mem Clock) (w.seat k).post.span) (span_seen ((step w i).mem Clock) (w.seat k).post.span) (seen_rises (w.mem Clock) ((step w i).mem Clock) (w.seat k).post.span h) in
    let g : rest_of w.layout.config ((step w i).mem Clock) (w.seat k) ≤ rest w k = omega (arith, s) in
    subst (λ (l : Local). rest_of w.layout.config ((step w i).mem Clock) l ≤ rest w k) (sym (seat_stays w i k e)) g
