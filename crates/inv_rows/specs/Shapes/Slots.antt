-- Each link leads to a row of the table or is null, each slot that a seat knows is a row of it, and what a call keeps of rows
-- that it has read is in range.
use Rattle.std.specs.Prelude.{ℕ, ◌≡◌, ◌≤◌, ◌<◌, ◌+◌, List, Option, Some, None, [], length}
use Rattle.std.specs.List.{All}
use Rattle.wfe_core.specs.words.Place.{Place}
use Rattle.wfe_core.specs.words.Place.Place.{Clock, Helper, Index, Interval, Bucket, Head, Tail, Claim, Life, Row, PlaceOf, Request as RequestOf}
use Rattle.wfe_core.specs.words.declared.config.Config.{Config}
use Rattle.wfe_core.specs.words.declared.layout.Layout.{Layout}
use Rattle.wfe_core.specs.defs.declared.event.Root.{Root}
use Rattle.wfe_core.specs.defs.declared.lifetime.Lifetime.{Lifetime}
use Rattle.wfe_core.specs.declared.ends.AllocateEnd.{AllocateEnd}
use Rattle.wfe_core.specs.declared.ends.AllocateEnd.TheVariants as allocate_ends
use Rattle.wfe_core.specs.declared.ends.FollowEnd.{FollowEnd}
use Rattle.wfe_core.specs.declared.ends.FollowEnd.TheVariants as follow_ends
use Rattle.wfe_core.specs.declared.ends.ProtectEnd.{ProtectEnd}
use Rattle.wfe_core.specs.declared.ends.ProtectEnd.TheVariants as protect_ends
use Rattle.wfe_core.specs.declared.post.Post.{Post}
use Rattle.wfe_core.specs.Memory.{Move, Load, Store, Cas, Or, And}
use Rattle.wfe_core.specs.Desks.{Desk}
use Rattle.wfe_core.specs.Scan.{read_before}
use Rattle.wfe_core.specs.Posts.{stands}
use Rattle.wfe_core.specs.Phases.{HazardAt, ProtectAt, RetireAt, MoveAt, Base, Ending, Outcome, Goes, Ends, Turn, RowOf, MapRow, QueueRow}
use Rattle.wfe_core.specs.Phases.ProtectAt.{CheckClock, CheckOwnClock, AnswerOwn, TakeAnswer, WithdrawRequest, WithdrawHelper, CheckUpper, ByHazard}
use Rattle.wfe_core.specs.Phases.HazardAt.{FirstLink, PublishLink, CheckLink}
use Rattle.wfe_core.specs.Phases.RetireAt.{LoadLife, LoadRetire, StoreRetired}
use Rattle.wfe_core.specs.Phases.MoveAt.{CheckEra, AnswerAsked, LoadReserved, HandOver}
use Rattle.wfe_core.specs.Phases.Base.{Begin, Protect, Reload, Clear, Finish, Release, Allocate, Write, GiveUp, Retire, Move as Moves}
use Rattle.wfe_core.specs.Phases.Ending.{Done, Protected, Followed, Allocated, Retired, Clocked}
use Rattle.wfe_core.specs.Calls.{ChangeKept, EnqueueKept, Task, Gets, Changes, Holds, Enqueues, Dequeues, Next, Again, MakeRoom, Answering, Retiring, AfterScan, Answered, Repeated, Counted, GetAt, FindVersion, FindCount, FindKey, FindValue, ChangeAt, LoadVersion, LoadCount, LoadKey, LoadValue, ExchangeRoot, EnqueueAt, LoadNumber, LoadNext, PassTail, ExchangeNext, ExchangeTail, DequeueAt, LoadTail, SwingTail, TakeNumber, TakeValue, ExchangeHead, Work, Getting, Changing, Enqueuing, Dequeuing, KeepAt, Loosens, LoadHeld, StoreHeld, Looks, Misses, HideSpan, MarkLeft, TakeList, MarkTaken, Keeping, ScanAt, ReadGuard, GiveBack, Why, Opens, FollowsHead, Fills, ClearsNext, Clears, Finishes, GivesUp, Retires, Tidies, Advances, Releases, Phase, Idle, Runs, Scans, Works, CallTurn}
use Rattle.wfe_core.specs.Rounds.{let_index}
use Rattle.wfe_core.specs.World.{World, finds, offered}
use Rattle.wfe_core.specs.Locals.{Local}
use Rattle.inv_rows.specs.Shapes.Frame.{phase_left}
use Rattle.inv_rows.specs.Shapes.Eras.{RootNeeds}

-- the row of a task is one of the table's
abbrev pub TakenIn : ℕ → Option ℕ → Type 0
TakenIn slots None = Unit {0}
TakenIn slots (Some slot) = slot ≤ slots

-- a change keeps a link, a version and pairs in range
pub record ChangeIn (config : Config) (kept : ChangeKept) : Type 0 where
  pub taken : TakenIn config.slots kept.taken
  pub link : kept.link ≤ config.slots + 1
  pub version : kept.version ≤ config.last_version
  pub pairs : length kept.pairs ≤ config.pairs

-- an enqueue a row and its number
pub record EnqueueIn (config : Config) (kept : EnqueueKept) : Type 0 where
  pub taken : TakenIn config.slots kept.taken
  pub tail : kept.tail ≤ config.slots
  pub number : kept.number ≤ config.last_version

abbrev pub TaskIn : Config → Task → Type 0
TaskIn config (Gets key) = Unit {0}
TaskIn config (Changes kept) = ChangeIn config kept
TaskIn config (Holds key) = Unit {0}
TaskIn config (Enqueues kept) = EnqueueIn config kept
TaskIn config Dequeues = Unit {0}

-- a row is filled only where another version is left
abbrev pub FillIn : Config → Task → Type 0
FillIn config (Gets key) = Unit {0}
FillIn config (Changes kept) = kept.version < config.last_version
FillIn config (Holds key) = Unit {0}
FillIn config (Enqueues kept) = kept.number < config.last_version
FillIn config Dequeues = Unit {0}

abbrev pub NextIn : ℕ → Next → Type 0
NextIn slots Again = Unit {0}
NextIn slots MakeRoom = Unit {0}
NextIn slots (Answering answer) = Unit {0}
NextIn slots (Retiring slot answer) = slot ≤ slots

abbrev pub LaterIn : Config → AfterScan → Type 0
LaterIn config (Answered answer) = Unit {0}
LaterIn config (Repeated task) = TaskIn config task
LaterIn config Counted = Unit {0}

-- an index at which a row may stand between calls
pub record KeptIn (config : Config) (index : ℕ) : Type 0 where
  pub kept : 2 ≤ index
  pub below : index < config.indexes

-- what comes after a machine
abbrev pub WhyIn : Config → Why → Type 0
WhyIn config (Opens task) = TaskIn config task
WhyIn config (FollowsHead head tail) = head ≤ config.slots
WhyIn config (Fills task) = TaskIn config task × FillIn config task
WhyIn config (ClearsNext next) = NextIn config.slots next
WhyIn config (Clears task next) = TaskIn config task × NextIn config.slots next
WhyIn config (Finishes task next) = TaskIn config task × NextIn config.slots next
WhyIn config (GivesUp answer) = Unit {0}
WhyIn config (Retires answer) = Unit {0}
WhyIn config (Tidies later) = LaterIn config later
WhyIn config Advances = Unit {0}
WhyIn config (Releases let_go) = KeptIn config (let_index let_go)

-- the link that is published leads to a row
abbrev pub HazardIn : ℕ → HazardAt → Type 0
HazardIn slots FirstLink = Unit {0}
HazardIn slots (PublishLink link) = (1 ≤ link) × (link ≤ slots + 1)
HazardIn slots (CheckLink link) = (1 ≤ link) × (link ≤ slots + 1)

-- the link that a protection has loaded
abbrev pub ProtectIn : ℕ → ProtectAt → Type 0
ProtectIn slots (CheckClock era tries link) = link ≤ slots + 1
ProtectIn slots (CheckOwnClock first era last link) = link ≤ slots + 1
ProtectIn slots (AnswerOwn first era link) = link ≤ slots + 1
ProtectIn slots (TakeAnswer link era) = link ≤ slots + 1
ProtectIn slots (WithdrawRequest link era) = link ≤ slots + 1
ProtectIn slots (WithdrawHelper link era) = link ≤ slots + 1
ProtectIn slots (CheckUpper link) = link ≤ slots + 1
ProtectIn slots (ByHazard at) = HazardIn slots at
ProtectIn slots at = Unit {0}

abbrev pub RetireIn : ℕ → RetireAt → Type 0
RetireIn slots (LoadLife slot) = slot ≤ slots
RetireIn slots (LoadRetire slot birth) = slot ≤ slots
RetireIn slots (StoreRetired slot birth retire) = slot ≤ slots

-- the link that a mover has loaded
abbrev pub MovesIn : ℕ → MoveAt → Type 0
MovesIn slots (CheckEra era seat tag index root link) = link ≤ slots + 1
MovesIn slots (AnswerAsked era seat tag index root link) = link ≤ slots + 1
MovesIn slots (LoadReserved era seat tag index root link) = link ≤ slots + 1
MovesIn slots (HandOver era seat tag index root link old) = link ≤ slots + 1
MovesIn slots at = Unit {0}

-- the next link of a row is one of the table's
pub record ProtectsIn (layout : Layout) (root : Root) (at : ProtectAt) : Type 0 where
  pub root_in : RootNeeds layout root
  pub at_in : ProtectIn layout.config.slots at

-- a row has room for the pairs that are written
abbrev pub RowIn : Config → RowOf → Type 0
RowIn config (MapRow version pairs) = length pairs ≤ config.pairs
RowIn config (QueueRow number value) = Unit {0}

abbrev pub BaseIn : Layout → Base → Type 0
BaseIn layout (Begin at) = Unit {0}
BaseIn layout (Protect aim index root steps at) = ProtectsIn layout root at
BaseIn layout (Reload parent index slot era steps) = (parent ≤ layout.config.slots) × (slot ≤ layout.config.slots)
BaseIn layout (Clear rows index) = Unit {0}
BaseIn layout Finish = Unit {0}
BaseIn layout (Release index) = Unit {0}
BaseIn layout (Allocate at) = Unit {0}
BaseIn layout (Write slot row place) = (slot ≤ layout.config.slots) × RowIn layout.config row
BaseIn layout (GiveUp slot) = slot ≤ layout.config.slots
BaseIn layout (Retire at) = RetireIn layout.config.slots at
BaseIn layout (Moves at) = MovesIn layout.config.slots at

-- how a machine may end
abbrev pub ProtectEndIn : ℕ → ProtectEnd → Type 0
ProtectEndIn slots (protect_ends.Held slot era) = slot ≤ slots
ProtectEndIn slots protect_ends.Null = Unit {0}

abbrev pub FollowEndIn : ℕ → FollowEnd → Type 0
FollowEndIn slots (follow_ends.Followed slot) = slot ≤ slots
FollowEndIn slots follow_ends.NoNext = Unit {0}
FollowEndIn slots (follow_ends.RootMoved seen) = Unit {0}

abbrev pub AllocateEndIn : ℕ → AllocateEnd → Type 0
AllocateEndIn slots (allocate_ends.Given slot birth) = slot ≤ slots
AllocateEndIn slots allocate_ends.Full = Unit {0}

abbrev pub EndIn : ℕ → Ending → Type 0
EndIn slots Done = Unit {0}
EndIn slots (Protected ending) = ProtectEndIn slots ending
EndIn slots (Followed ending) = FollowEndIn slots ending
EndIn slots (Allocated ending) = AllocateEndIn slots ending
EndIn slots (Retired life) = life.slot ≤ slots
EndIn slots (Clocked clock) = Unit {0}

-- what is read of a row is in range
abbrev pub GetIn : Config → GetAt → Type 0
GetIn config (FindVersion slot) = slot ≤ config.slots
GetIn config (FindCount slot version) = slot ≤ config.slots
GetIn config (FindKey slot version count pair) = (slot ≤ config.slots) × (pair < count) × (count ≤ config.pairs)
GetIn config (FindValue slot version pair) = (slot ≤ config.slots) × (pair < config.pairs)

abbrev pub ChangeAtIn : Config → ChangeKept → ChangeAt → Type 0
ChangeAtIn config kept (LoadVersion slot) = (slot ≤ config.slots) × (kept.pairs ≡ [])
ChangeAtIn config kept (LoadCount slot) = (slot ≤ config.slots) × (kept.pairs ≡ [])
ChangeAtIn config kept (LoadKey slot count) = (slot ≤ config.slots) × (length kept.pairs < count) × (count ≤ config.pairs)
ChangeAtIn config kept (LoadValue slot count key) = (slot ≤ config.slots) × (length kept.pairs < count) × (count ≤ config.pairs)
ChangeAtIn config kept (ExchangeRoot slot) = (slot ≤ config.slots) × (kept.version < config.last_version)

abbrev pub EnqueueAtIn : Config → EnqueueKept → EnqueueAt → Type 0
EnqueueAtIn config kept LoadNumber = Unit {0}
EnqueueAtIn config kept LoadNext = Unit {0}
EnqueueAtIn config kept (PassTail next) = (1 ≤ next) × (next ≤ config.slots + 1)
EnqueueAtIn config kept (ExchangeNext slot) = (slot ≤ config.slots) × (kept.number < config.last_version)
EnqueueAtIn config kept (ExchangeTail slot) = (slot ≤ config.slots) × (kept.number < config.last_version)

abbrev pub DequeueIn : ℕ → DequeueAt → Type 0
DequeueIn slots (LoadTail head) = head ≤ slots
DequeueIn slots (SwingTail head next) = (head ≤ slots) × (next ≤ slots)
DequeueIn slots (TakeNumber head next) = (head ≤ slots) × (next ≤ slots)
DequeueIn slots (TakeValue head next number) = (head ≤ slots) × (next ≤ slots)
DequeueIn slots (ExchangeHead head next number value) = (head ≤ slots) × (next ≤ slots)

-- a copy goes upwards
pub record CopyIn (config : Config) (from index : ℕ) : Type 0 where
  pub kept : 2 ≤ from
  pub rises : from < index
  pub below : index < config.indexes

abbrev pub KeepIn : Config → KeepAt → Type 0
KeepIn config (Loosens let_go) = KeptIn config (let_index let_go)
KeepIn config (LoadHeld from index) = CopyIn config from index
KeepIn config (StoreHeld from index era) = CopyIn config from index
KeepIn config (Looks index key at) = KeptIn config index × GetIn config at
KeepIn config (Misses index) = KeptIn config index
KeepIn config HideSpan = Unit {0}
KeepIn config MarkLeft = Unit {0}
KeepIn config (TakeList place) = place < config.seats
KeepIn config (MarkTaken place count) = place < config.seats

abbrev pub WorkIn : Config → Work → Type 0
WorkIn config (Getting key at) = GetIn config at
WorkIn config (Changing kept at) = ChangeIn config kept × ChangeAtIn config kept at
WorkIn config (Enqueuing kept at) = EnqueueIn config kept × EnqueueAtIn config kept at
WorkIn config (Dequeuing at) = DequeueIn config.slots at
WorkIn config (Keeping at) = KeepIn config at

-- what goes back and what is left are no more than the rows
pub record BackIn (slots : ℕ) (desk : Desk) (slot : ℕ) : Type 0 where
  pub slot_in : slot ≤ slots
  pub room : desk.report.back + length desk.list ≤ slots + 1

-- a scan has read as many guards as it went by
abbrev pub ScanIn : ℕ → Desk → ScanAt → Type 0
ScanIn slots desk (ReadGuard number) = length (read_before desk.report number) ≡ number
ScanIn slots desk (GiveBack place slot) = BackIn slots desk slot

abbrev pub PhaseIn : Layout → Desk → Phase → Type 0
PhaseIn layout desk Idle = Unit {0}
PhaseIn layout desk (Runs why base) = WhyIn layout.config why × BaseIn layout base
PhaseIn layout desk (Scans later at) = LaterIn layout.config later × ScanIn layout.config.slots desk at
PhaseIn layout desk (Works work) = WorkIn layout.config work

-- what stands is a row of the table, at one of the seat's indexes
abbrev pub StandsIn : Layout → Option ℕ → ℕ → Type 0
StandsIn layout None index = Unit {0}
StandsIn layout (Some slot) index = (slot ≤ layout.config.slots) × (index < layout.config.indexes)

abbrev pub PostIn : Layout → Post → Type 0
PostIn layout post = (index : ℕ) → StandsIn layout (stands post index) index

-- the lives of the list are of rows of the table
abbrev pub ListIn : ℕ → List Lifetime → Type 0
ListIn slots lives = All (λ (life : Lifetime). life.slot ≤ slots) lives

-- the same of what a turn leaves
pub record TurnSlots (layout : Layout) (t : CallTurn) : Type 0 where
  pub post : PostIn layout t.post
  pub list : ListIn layout.config.slots t.desk.list
  pub phase : PhaseIn layout t.desk (phase_left t.outcome)

-- and of a seat
pub record SeatSlots (layout : Layout) (l : Local) : Type 0 where
  pub post : PostIn layout l.post
  pub list : ListIn layout.config.slots l.desk.list
  pub phase : PhaseIn layout l.desk l.phase

-- a machine's step
abbrev pub OutcomeIn : Layout → Outcome → Type 0
OutcomeIn layout (Goes base) = BaseIn layout base
OutcomeIn layout (Ends ending) = EndIn layout.config.slots ending

pub record MachineSlots (layout : Layout) (t : Turn) : Type 0 where
  pub post : PostIn layout t.post
  pub outcome : OutcomeIn layout t.outcome

-- whether a word of a row is its next link
abbrev pub RowLink : ℕ → ℕ → ℕ → Type 0
RowLink slots place word = place ≡ 0 → word ≤ slots + 1

-- the word of a place that has a link is null or leads to a row
abbrev pub WordSlots : ℕ → Place → ℕ → Type 0
WordSlots slots Clock word = Unit {0}
WordSlots slots (Helper seat) word = Unit {0}
WordSlots slots (Index seat index) word = Unit {0}
WordSlots slots (Interval seat) word = Unit {0}
WordSlots slots (RequestOf seat) word = Unit {0}
WordSlots slots (Bucket bucket) word = word ≤ slots + 1
WordSlots slots Head word = word ≤ slots + 1
WordSlots slots Tail word = word ≤ slots + 1
WordSlots slots (Claim number) word = Unit {0}
WordSlots slots (Life slot) word = Unit {0}
WordSlots slots (Row slot place) word = RowLink slots place word
WordSlots slots (PlaceOf seat) word = Unit {0}

-- what an operation writes
abbrev pub MoveSlots : ℕ → Move → Type 0
MoveSlots slots (Load place) = Unit {0}
MoveSlots slots (Store place value) = WordSlots slots place value
MoveSlots slots (Cas place old new) = WordSlots slots place new
MoveSlots slots (Or place bits) = (word : ℕ) → WordSlots slots place word
MoveSlots slots (And place bits) = (word : ℕ) → WordSlots slots place word

pub record Slots (w : World) : Type 0 where
  pub words : (place : Place) → WordSlots w.layout.config.slots place (w.mem place)
  pub seats : (k : ℕ) → SeatSlots w.layout (w.seat k)

-- what the other parts give a step of seat i: what it finds of a row's version, number and count of pairs is in range
abbrev pub get_finds : Config → GetAt → ℕ → Type 0
get_finds config (FindVersion slot) found = found ≤ config.last_version
get_finds config (FindCount slot version) found = found ≤ config.pairs
get_finds config (FindKey slot version count pair) found = Unit {0}
get_finds config (FindValue slot version pair) found = Unit {0}

abbrev pub change_finds : Config → ChangeAt → ℕ → Type 0
change_finds config (LoadVersion slot) found = found ≤ config.last_version
change_finds config (LoadCount slot) found = found ≤ config.pairs
change_finds config (LoadKey slot count) found = Unit {0}
change_finds config (LoadValue slot count key) found = Unit {0}
change_finds config (ExchangeRoot slot) found = Unit {0}

abbrev pub enqueue_finds : Config → EnqueueAt → ℕ → Type 0
enqueue_finds config LoadNumber found = found ≤ config.last_version
enqueue_finds config LoadNext found = Unit {0}
enqueue_finds config (PassTail next) found = Unit {0}
enqueue_finds config (ExchangeNext slot) found = Unit {0}
enqueue_finds config (ExchangeTail slot) found = Unit {0}

abbrev pub dequeue_finds : Config → DequeueAt → ℕ → Type 0
dequeue_finds config (LoadTail head) found = Unit {0}
dequeue_finds config (SwingTail head next) found = Unit {0}
dequeue_finds config (TakeNumber head next) found = found ≤ config.last_version
dequeue_finds config (TakeValue head next number) found = Unit {0}
dequeue_finds config (ExchangeHead head next number value) found = Unit {0}

abbrev pub keep_finds : Config → KeepAt → ℕ → Type 0
keep_finds config (Loosens let_go) found = Unit {0}
keep_finds config (LoadHeld from index) found = Unit {0}
keep_finds config (StoreHeld from index era) found = Unit {0}
keep_finds config (Looks index key at) found = get_finds config at found
keep_finds config (Misses index) found = Unit {0}
keep_finds config HideSpan found = Unit {0}
keep_finds config MarkLeft found = Unit {0}
keep_finds config (TakeList place) found = Unit {0}
keep_finds config (MarkTaken place count) found = Unit {0}

abbrev pub work_finds : Config → Work → ℕ → Type 0
work_finds config (Getting key at) found = get_finds config at found
work_finds config (Changing kept at) found = change_finds config at found
work_finds config (Enqueuing kept at) found = enqueue_finds config at found
work_finds config (Dequeuing at) found = dequeue_finds config at found
work_finds config (Keeping at) found = keep_finds config at found

-- a list that is taken over is of other rows than the own
abbrev pub gift_finds : Config → Desk → Work → ℕ → Type 0
gift_finds config desk (Keeping (TakeList place)) found = found ≡ 1 → length desk.list + length desk.gift ≤ config.slots + 1
gift_finds config desk work found = Unit {0}

-- the list is no longer than the rows when a scan ends reading, and has the entry that goes back
abbrev pub scan_lists : Config → Desk → ScanAt → Type 0
scan_lists config desk (ReadGuard number) = length desk.list ≤ config.slots + 1
scan_lists config desk (GiveBack place slot) = place < length desk.list

abbrev pub phase_finds : Config → Desk → Phase → ℕ → Type 0
phase_finds config desk Idle found = Unit {0}
phase_finds config desk (Runs why base) found = Unit {0}
phase_finds config desk (Scans later at) found = scan_lists config desk at
phase_finds config desk (Works work) found = work_finds config work found × gift_finds config desk work found

abbrev pub SlotsNeeds : World → ℕ → Type 0
SlotsNeeds w i = phase_finds w.layout.config (offered w i).desk (w.seat i).phase (finds w i)
