-- How many steps a call may still make, at most. Each round but the one after a failed walk has seen a greater version or
-- number, each try but those of Wait-Free Eras a greater era, and a call walks and scans at most twice.
use Rattle.std.specs.Prelude.{ℕ, ◌+◌, ◌-◌, ◌*◌, Bool, true, false, List, length, Option, Some, None}
use Rattle.wfe_words.specs.Place.Place.{Clock}
use Rattle.wfe_words.specs.Schemes.{publishes_rows}
use Rattle.wfe_words.specs.declared.config.Config.{Config}
use Rattle.wfe_defs.specs.declared.lifetime.Interval.{Interval}
use Rattle.wfe_defs.specs.declared.lifetime.Lifetime.{Lifetime}
use Rattle.wfe_defs.specs.Bounds.{clock_most, over_most}
use Rattle.wfe_core.specs.Guards.{guards}
use Rattle.wfe_core.specs.Phases.{Aim, Alone, Follows, Tries, Endless, Failed, BeginAt, HazardAt, ProtectAt, AllocateAt, RetireAt, MoveAt, Base}
use Rattle.wfe_core.specs.Phases.BeginAt.{LoadLower, PublishSpan}
use Rattle.wfe_core.specs.Phases.ProtectAt.{LoadClock, PublishEra, LoadLink, CheckClock, PublishRequest, LoadOwnClock, PublishHelper, LoadOwnLink, CheckOwnClock, AnswerOwn, LoadAnswer, TakeAnswer, WithdrawRequest, WithdrawHelper, LoadWithin, CheckUpper, RaiseUpper, ByHazard}
use Rattle.wfe_core.specs.Phases.HazardAt.{FirstLink, PublishLink, CheckLink}
use Rattle.wfe_core.specs.Phases.AllocateAt.{LoadBirth, ClaimSlot, StoreLife}
use Rattle.wfe_core.specs.Phases.RetireAt.{LoadLife, LoadRetire, StoreRetired}
use Rattle.wfe_core.specs.Phases.MoveAt.{LoadEra, LoadRequest, ShowEra, LoadAsked, CheckEra, AnswerAsked, LoadReserved, HandOver, HideEra, HideLate, ExchangeClock}
use Rattle.wfe_core.specs.Phases.Base.{Begin, Protect, Reload, Clear, Finish, Release, Allocate, Write, GiveUp, Retire, Move}
use Rattle.wfe_core.specs.WriteRow.{last_written}
use Rattle.wfe_core.specs.Calls.{Task, Gets, Changes, Holds, Enqueues, Dequeues, Next, Again, MakeRoom, Answering, Retiring, AfterScan, Answered, Repeated, Counted, Why, Opens, FollowsHead, Fills, ClearsNext, Clears, Finishes, GivesUp, Retires, Tidies, Advances, Releases, LetGo, Released, Rehold, Dropped, Parting, KeepAt, Loosens, LoadHeld, StoreHeld, Looks, Misses, HideSpan, MarkLeft, TakeList, MarkTaken, ScanAt, ReadGuard, GiveBack, GetAt, FindVersion, FindCount, FindKey, FindValue, ChangeAt, LoadVersion, LoadCount, LoadKey, LoadValue, ExchangeRoot, EnqueueAt, LoadNumber, LoadNext, PassTail, ExchangeNext, ExchangeTail, DequeueAt, LoadTail, SwingTail, TakeNumber, TakeValue, ExchangeHead, Work, Getting, Changing, Enqueuing, Dequeuing, Keeping, Phase, Idle, Runs, Scans, Works}
use Rattle.wfe_core.specs.Locals.{Local}
use Rattle.wfe_core.specs.Rounds.{taken_of}
use Rattle.wfe_core.specs.World.{World}

-- steps of a machine up to its end, where no try sees a greater era

-- a protection of Wait-Free Eras; each other one takes no more but for greater eras
abbrev pub protect_most : Config → ℕ
protect_most config = over_most config.tries

-- a move of the clock
abbrev pub move_most : Config → ℕ
move_most config = clock_most config.seats

-- a walk, with the load and the store round it
abbrev pub walk_most : Config → ℕ
walk_most config = config.slots + 3

-- a scan of so many lives
abbrev pub scan_most : Config → ℕ → ℕ
scan_most config lives = guards config + lives

abbrev pub begin_left : BeginAt → ℕ
begin_left LoadLower = 2
begin_left (PublishSpan era) = 1

-- the tries that are left, each of three steps, and the slow path
abbrev pub tries_left : Config → Tries → ℕ → ℕ
tries_left config Endless here = here
tries_left config (Failed count) here = here + 10 + 3 * (config.tries - count)

-- an attempt that fails is a lost round
abbrev pub hazard_left : HazardAt → ℕ
hazard_left FirstLink = 3
hazard_left (PublishLink link) = 2
hazard_left (CheckLink link) = 1

abbrev pub protect_left : Config → ProtectAt → ℕ
protect_left config (LoadClock Endless) = 4
protect_left config (LoadClock (Failed count)) = protect_most config
protect_left config (PublishEra era tries) = tries_left config tries 3
protect_left config (LoadLink era tries) = tries_left config tries 2
protect_left config (CheckClock era tries link) = tries_left config tries 1
protect_left config PublishRequest = 12
protect_left config LoadOwnClock = 11
protect_left config (PublishHelper first era false) = 10
protect_left config (PublishHelper first era true) = 7
protect_left config (LoadOwnLink first era false) = 9
protect_left config (LoadOwnLink first era true) = 6
protect_left config (CheckOwnClock first era false link) = 8
protect_left config (CheckOwnClock first era true link) = 5
protect_left config (AnswerOwn first era link) = 4
protect_left config (LoadAnswer first) = 4
protect_left config (TakeAnswer link era) = 3
protect_left config (WithdrawRequest link era) = 2
protect_left config (WithdrawHelper link era) = 1
protect_left config LoadWithin = 2
protect_left config (CheckUpper link) = 1
protect_left config (RaiseUpper era) = 3
protect_left config (ByHazard at) = hazard_left at

abbrev pub allocate_left : AllocateAt → Config → ℕ
allocate_left LoadBirth config = walk_most config
allocate_left (ClaimSlot birth walk) config = walk.left + 2
allocate_left (StoreLife birth slot) config = 1

abbrev pub retire_left : RetireAt → ℕ
retire_left (LoadLife slot) = 3
retire_left (LoadRetire slot birth) = 2
retire_left (StoreRetired slot birth retire) = 1

-- seven steps a request, and two after the last
abbrev pub requests_left : Config → ℕ → ℕ → ℕ
requests_left config seat here = here + 7 * (config.seats - (seat + 1)) + 2

abbrev pub move_left : MoveAt → Config → ℕ
move_left (LoadEra helps) config = move_most config
move_left (LoadRequest era seat shows) config = requests_left config seat 7
move_left (ShowEra era seat tag index root) config = requests_left config seat 6
move_left (LoadAsked era seat tag index root) config = requests_left config seat 5
move_left (CheckEra era seat tag index root link) config = requests_left config seat 4
move_left (AnswerAsked era seat tag index root link) config = requests_left config seat 3
move_left (LoadReserved era seat tag index root link) config = requests_left config seat 2
move_left (HandOver era seat tag index root link old) config = requests_left config seat 1
move_left (HideEra era) config = 2
move_left (HideLate seen) config = 1
move_left (ExchangeClock era) config = 1

-- the head is loaded again after a protection that is followed
abbrev pub aim_left : Aim → ℕ
aim_left Alone = 0
aim_left Follows = 1

abbrev pub base_left : Config → Base → ℕ
base_left config (Begin at) = begin_left at + protect_most config
base_left config (Protect aim index root steps at) = protect_left config at + aim_left aim
base_left config (Reload parent index slot era steps) = 1
base_left config (Clear rows index) = 1
base_left config Finish = 1
base_left config (Release index) = 1
base_left config (Allocate at) = allocate_left at config
base_left config (Write slot row place) = last_written row + 1 - place
base_left config (GiveUp slot) = 1
base_left config (Retire at) = retire_left at
base_left config (Move at) = move_left at config

abbrev pub scan_left : Config → List Lifetime → ScanAt → ℕ
scan_left config lives (ReadGuard number) = (guards config - number) + length lives
scan_left config lives (GiveBack place slot) = length lives - place

-- steps of a round once its root was found: the own ones, with writing, clearing and finishing, but without a walk

abbrev pub round_left : Config → Task → ℕ
round_left config (Gets key) = config.pairs + 5
round_left config (Changes kept) = 4 * config.pairs + 9
round_left config (Holds key) = 2
round_left config (Enqueues kept) = 10
round_left config Dequeues = protect_most config + 9

-- a round from its beginning
abbrev pub open_left : Config → Task → ℕ
open_left config task = 2 + protect_most config + round_left config task

-- what a lost round is worth: more than a round, with the clearing before it
abbrev pub round_worth : Config → ℕ
round_worth config = 2 * protect_most config + 4 * config.pairs + 20

-- a get loses none; but where rows are published each attempt of its protection is one, and each that fails sees a change of its bucket
abbrev pub gets_most : Config → (rows : Bool) → ℕ
gets_most config false = 1
gets_most config true = config.last_version + 1

-- how many rounds a task may lose, at most: each sees a change of its bucket; a row queued, or the tail or the head moved;
-- or comes after the one walk that failed
abbrev pub rounds_most : Config → Task → ℕ
rounds_most config (Gets key) = gets_most config (publishes_rows config.scheme)
rounds_most config (Changes kept) = config.last_version + 1
rounds_most config (Holds key) = gets_most config (publishes_rows config.scheme)
rounds_most config (Enqueues kept) = 2 * config.last_version + 1
rounds_most config Dequeues = 2 * config.last_version + 1

-- the rounds that are left after so many, this one included
abbrev pub rounds_left : Config → Task → ℕ → ℕ
rounds_left config task lost = (rounds_most config task + 1 - lost) * round_worth config

-- what comes once in a call

-- room is made: the clock is moved, and the list is scanned
abbrev pub room_most : Config → ℕ → ℕ
room_most config lives = move_most config + scan_most config lives

-- a row is retired, or given up, and the list is tidied with it
abbrev pub ending_most : Config → ℕ → ℕ
ending_most config lives = 5 + room_most config (lives + 1)

-- the walks that are left, with the room made between them
abbrev pub walks_by : Config → ℕ → (walked : Bool) → Option ℕ → ℕ
walks_by config lives walked (Some slot) = 0
walks_by config lives true None = walk_most config
walks_by config lives false None = 2 * walk_most config + room_most config lives

abbrev pub has_walked : Task → Bool
has_walked (Gets key) = true
has_walked (Changes kept) = kept.walked
has_walked (Holds key) = true
has_walked (Enqueues kept) = kept.walked
has_walked Dequeues = true

abbrev pub walks_left : Config → ℕ → Task → ℕ
walks_left config lives task = walks_by config lives (has_walked task) (taken_of task)

-- the same during a walk
abbrev pub walks_after : Config → ℕ → (walked : Bool) → ℕ
walks_after config lives true = 0
walks_after config lives false = walk_most config + room_most config lives

-- all that a task may still cost besides its present round
abbrev pub task_left : Config → ℕ → Task → ℕ → ℕ
task_left config lives task lost = rounds_left config task lost + walks_left config lives task + ending_most config lives

-- steps of a call after the present machine, scan or own step, with the machine's own steps given

-- the task's root has been told: a request's answer was taken, and its words are withdrawn; or its row is published
abbrev pub is_told : Base → Bool
is_told (Protect aim index root steps (WithdrawRequest link era)) = true
is_told (Protect aim index root steps (WithdrawHelper link era)) = true
is_told (Protect aim index root steps (ByHazard (CheckLink link))) = true
is_told base = false

-- the rounds lost before the present one, of those whose root was found
abbrev pub lost_by : ℕ → (told : Bool) → ℕ
lost_by rounds true = rounds - 1
lost_by rounds false = rounds

abbrev pub closing_left : Config → ℕ → ℕ → Task → Next → ℕ
closing_left config lives rounds task Again = open_left config task + task_left config lives task rounds
closing_left config lives rounds task MakeRoom = 1 + room_most config lives + task_left config lives task (rounds - 1)
closing_left config lives rounds task (Answering answer) = 2
closing_left config lives rounds task (Retiring slot answer) = 4 + room_most config (lives + 1)

abbrev pub later_left : Config → ℕ → ℕ → AfterScan → ℕ
later_left config lives rounds (Answered answer) = 0
later_left config lives rounds (Repeated task) = task_left config lives task (rounds - 1)
later_left config lives rounds Counted = 0

-- a row is written once it is given: its words, the exchange of a link, of the tail, and the way out
abbrev pub fill_left : Config → Task → ℕ
fill_left config (Gets key) = 0
fill_left config (Changes kept) = 2 * config.pairs + 7
fill_left config (Holds key) = 0
fill_left config (Enqueues kept) = 8
fill_left config Dequeues = 0

abbrev pub filling_left : Config → ℕ → ℕ → Task → Base → ℕ
filling_left config lives rounds task (Allocate at) =
    allocate_left at config + fill_left config task + rounds_left config task (rounds - 1) + walks_after config lives (has_walked task)
    + ending_most config lives
filling_left config lives rounds task base = base_left config base + 5 + task_left config lives task (rounds - 1)

-- what comes once something is let go
abbrev pub let_left : Config → ℕ → LetGo → ℕ
let_left config lives Released = 0
let_left config lives (Rehold key) = open_left config (Holds key) + task_left config lives (Holds key) 0
let_left config lives (Dropped index) = 0
let_left config lives (Parting index) = 8 - index

abbrev pub why_left : Config → ℕ → ℕ → Base → Why → ℕ
why_left config lives rounds base (Opens task) =
    base_left config base + round_left config task + task_left config lives task (lost_by rounds (is_told base))
why_left config lives rounds base (FollowsHead head tail) = base_left config base + 7 + task_left config lives Dequeues (rounds - 1)
why_left config lives rounds base (Fills task) = filling_left config lives rounds task base
why_left config lives rounds base (ClearsNext next) = 2 + closing_left config lives rounds Dequeues next
why_left config lives rounds base (Clears task next) = 1 + closing_left config lives rounds task next
why_left config lives rounds base (Finishes task next) = closing_left config lives rounds task next
why_left config lives rounds base (GivesUp answer) = 1
why_left config lives rounds base (Retires answer) = base_left config base + room_most config (lives + 1)
why_left config lives rounds base (Tidies later) = base_left config base + scan_most config lives + later_left config lives rounds later
why_left config lives rounds base Advances = base_left config base
why_left config lives rounds base (Releases let_go) = 1 + let_left config lives let_go

abbrev pub get_left : Config → GetAt → ℕ
get_left config (FindVersion slot) = config.pairs + 5
get_left config (FindCount slot version) = config.pairs + 4
get_left config (FindKey slot version count pair) = (count - pair) + 3
get_left config (FindValue slot version pair) = 3

abbrev pub change_left : Config → ℕ → ChangeAt → ℕ
change_left config read (LoadVersion slot) = 4 * config.pairs + 9
change_left config read (LoadCount slot) = 4 * config.pairs + 8
change_left config read (LoadKey slot count) = 2 * (count - read) + 2 * config.pairs + 7
change_left config read (LoadValue slot count key) = 2 * (count - read) + 2 * config.pairs + 6
change_left config read (ExchangeRoot slot) = 4

-- once its row is linked, an enqueue goes no further round
abbrev pub enqueue_left : EnqueueAt → ℕ → ℕ
enqueue_left LoadNumber more = 10 + more
enqueue_left LoadNext more = 9 + more
enqueue_left (PassTail next) more = 4 + more
enqueue_left (ExchangeNext slot) more = 5 + more
enqueue_left (ExchangeTail slot) more = 4

abbrev pub dequeue_left : Config → DequeueAt → ℕ
dequeue_left config (LoadTail head) = protect_most config + 9
dequeue_left config (SwingTail head next) = 6
dequeue_left config (TakeNumber head next) = 6
dequeue_left config (TakeValue head next number) = 5
dequeue_left config (ExchangeHead head next number value) = 4

abbrev pub keep_left : Config → ℕ → KeepAt → ℕ
keep_left config lives (Loosens let_go) = 1 + let_left config lives let_go
keep_left config lives (LoadHeld from index) = 2
keep_left config lives (StoreHeld from index era) = 1
keep_left config lives (Looks index key at) = get_left config at
keep_left config lives (Misses index) = 1
keep_left config lives HideSpan = 2
keep_left config lives MarkLeft = 1
keep_left config lives (TakeList place) = 2
keep_left config lives (MarkTaken place count) = 1

abbrev pub work_left : Config → ℕ → ℕ → Work → ℕ
work_left config lives rounds (Getting key at) = get_left config at + task_left config lives (Gets key) (rounds - 1)
work_left config lives rounds (Changing kept at) =
    change_left config (length kept.pairs) at + task_left config lives (Changes kept) (rounds - 1)
work_left config lives rounds (Enqueuing kept at) = enqueue_left at (task_left config lives (Enqueues kept) (rounds - 1))
work_left config lives rounds (Dequeuing at) = dequeue_left config at + task_left config lives Dequeues (rounds - 1)
work_left config lives rounds (Keeping at) = keep_left config lives at

-- the steps that are left where no try sees a greater era
abbrev pub phase_left : Config → ℕ → List Lifetime → Phase → ℕ
phase_left config rounds lives Idle = 0
phase_left config rounds lives (Runs why base) = why_left config (length lives) rounds base why
phase_left config rounds lives (Scans later at) = scan_left config lives at + later_left config (length lives) rounds later
phase_left config rounds lives (Works work) = work_left config (length lives) rounds work

-- the era that a call has seen: the one that its protection or its interval shows, else the clock
abbrev pub span_seen : ℕ → Option Interval → ℕ
span_seen clock None = clock
span_seen clock (Some span) = span.hi

abbrev pub protect_seen : ProtectAt → ℕ → ℕ
protect_seen (PublishEra era tries) seen = era
protect_seen (LoadLink era tries) seen = era
protect_seen (CheckClock era tries link) seen = era
protect_seen (RaiseUpper era) seen = era
protect_seen at seen = seen

abbrev pub base_seen : Base → ℕ → ℕ
base_seen (Begin (PublishSpan era)) seen = era
base_seen (Protect aim index root steps at) seen = protect_seen at seen
base_seen base seen = seen

abbrev pub phase_seen : Phase → ℕ → ℕ
phase_seen (Runs why base) seen = base_seen base seen
phase_seen phase seen = seen

-- three steps for each era that a call may still see
abbrev pub eras_left : Config → ℕ → ℕ
eras_left config seen = 3 * (config.last_era - seen)

-- the steps of a seat that has a call under way
abbrev pub rest_of : Config → ℕ → Local → ℕ
rest_of config clock l =
    phase_left config l.rounds l.desk.list l.phase + eras_left config (phase_seen l.phase (span_seen clock l.post.span))

-- at most so many steps of seat i are left
abbrev pub rest : World → ℕ → ℕ
rest w i = rest_of w.layout.config (w.mem Clock) (w.seat i)
