-- What holds where a call makes its next step, and what that step may find. A history gives all of it at each step.
use Rattle.std.specs.Prelude.{ℕ, ◌≡◌, ◌≤◌, ◌<◌, ◌+◌, ◌*◌, ◌==◌, false, List, [], length, map, slice_get, Option, Some, None}
use Rattle.std.specs.List.{list_any}
use Rattle.wfe_words.specs.Schemes.{publishes_rows}
use Rattle.wfe_defs.specs.declared.lifetime.Lifetime.{Lifetime}
use Rattle.wfe_core.specs.declared.post.Post.{Post}
use Rattle.wfe_core.specs.Desks.{Desk}
use Rattle.wfe_core.specs.Guards.{guards}
use Rattle.wfe_core.specs.Phases.{RetireAt, Base}
use Rattle.wfe_core.specs.Phases.RetireAt.{LoadLife, LoadRetire, StoreRetired}
use Rattle.wfe_core.specs.Phases.Base.{Retire}
use Rattle.wfe_core.specs.Ready.{ShownFits, IndexFits, SlotFits, LinkFits, IsReady, Plausible}
use Rattle.wfe_core.specs.Rounds.{let_index, scheme_of}
use Rattle.wfe_core.specs.Scan.{read_before}
use Rattle.wfe_core.specs.Calls.{ChangeKept, EnqueueKept, Task, Gets, Changes, Holds, Enqueues, Dequeues, AfterScan, Answered, Repeated, Counted, Why, Opens, FollowsHead, Fills, ClearsNext, Clears, Finishes, GivesUp, Retires, Tidies, Advances, Releases, ScanAt, ReadGuard, GiveBack, GetAt, FindVersion, FindCount, FindKey, FindValue, ChangeAt, LoadVersion, LoadCount, LoadKey, LoadValue, ExchangeRoot, EnqueueAt, LoadNumber, LoadNext, PassTail, ExchangeNext, ExchangeTail, DequeueAt, LoadTail, SwingTail, TakeNumber, TakeValue, ExchangeHead, Work, Getting, Changing, Enqueuing, Dequeuing, Keeping, KeepAt, Loosens, LoadHeld, StoreHeld, Looks, Misses, HideSpan, MarkLeft, TakeList, MarkTaken, Phase, Idle, Runs, Scans, Works}

-- a version of a bucket, or a number of the queue
abbrev pub VersionFits : Post → ℕ → Type 0
VersionFits post version = version ≤ post.layout.config.last_version

-- one after which there is another
abbrev pub VersionLeft : Post → ℕ → Type 0
VersionLeft post version = version < post.layout.config.last_version

-- a seat's place
abbrev pub PlaceFits : Post → ℕ → Type 0
PlaceFits post place = place < post.layout.config.seats

-- a number of pairs for which a row has room
abbrev pub CountFits : Post → ℕ → Type 0
CountFits post count = count ≤ post.layout.config.pairs

abbrev pub TakenFits : Post → Option ℕ → Type 0
TakenFits post None = Unit {0}
TakenFits post (Some slot) = SlotFits post slot

-- a change keeps a link, a version and pairs in range
pub record ChangeFits (post : Post) (kept : ChangeKept) : Type 0 where
  pub taken : TakenFits post kept.taken
  pub link : LinkFits post kept.link
  pub version : VersionFits post kept.version
  pub pairs : CountFits post (length kept.pairs)

pub record EnqueueFits (post : Post) (kept : EnqueueKept) : Type 0 where
  pub taken : TakenFits post kept.taken
  pub tail : SlotFits post kept.tail
  pub number : VersionFits post kept.number

abbrev pub TaskFits : Post → Task → Type 0
TaskFits post (Gets key) = Unit {0}
TaskFits post (Changes kept) = ChangeFits post kept
TaskFits post (Holds key) = Unit {0}
TaskFits post (Enqueues kept) = EnqueueFits post kept
TaskFits post Dequeues = Unit {0}

-- a row is filled only where another version is left
abbrev pub FillFits : Post → Task → Type 0
FillFits post (Gets key) = Unit {0}
FillFits post (Changes kept) = VersionLeft post kept.version
FillFits post (Holds key) = Unit {0}
FillFits post (Enqueues kept) = VersionLeft post kept.number
FillFits post Dequeues = Unit {0}

abbrev pub LaterFits : Post → AfterScan → Type 0
LaterFits post (Answered answer) = Unit {0}
LaterFits post (Repeated task) = TaskFits post task
LaterFits post Counted = Unit {0}

-- the row that is being retired
abbrev pub retire_slot : RetireAt → ℕ
retire_slot (LoadLife slot) = slot
retire_slot (LoadRetire slot birth) = slot
retire_slot (StoreRetired slot birth retire) = slot

abbrev pub slots_of : List Lifetime → List ℕ
slots_of lives = map (λ (life : Lifetime). life.slot) lives

-- no entry of the list is of this slot
abbrev pub NotListed : ℕ → List Lifetime → Type 0
NotListed slot lives = list_any (◌==◌ slot) (slots_of lives) ≡ false

-- a row that is being retired is not on the list
abbrev pub RetireFits : Base → Desk → Type 0
RetireFits (Retire at) desk = NotListed (retire_slot at) desk.list
RetireFits base desk = Unit {0}

-- what holds of what comes after a machine
abbrev pub why_ready : Why → Base → Post → Desk → Type 0
why_ready (Opens task) base post desk = TaskFits post task
why_ready (FollowsHead head tail) base post desk = SlotFits post head
why_ready (Fills task) base post desk = (TaskFits post task) × (FillFits post task)
why_ready (ClearsNext next) base post desk = Unit {0}
why_ready (Clears task next) base post desk = TaskFits post task
why_ready (Finishes task next) base post desk = TaskFits post task
why_ready (GivesUp answer) base post desk = Unit {0}
why_ready (Retires answer) base post desk = RetireFits base desk
why_ready (Tidies later) base post desk = LaterFits post later
why_ready Advances base post desk = Unit {0}
why_ready (Releases let_go) base post desk = Unit {0}

abbrev pub get_ready : GetAt → Post → Type 0
get_ready (FindVersion slot) post = SlotFits post slot
get_ready (FindCount slot version) post = SlotFits post slot
get_ready (FindKey slot version count pair) post = (SlotFits post slot) × (pair < count) × (CountFits post count)
get_ready (FindValue slot version pair) post = (SlotFits post slot) × (pair < post.layout.config.pairs)

abbrev pub change_ready : ChangeKept → ChangeAt → Post → Type 0
change_ready kept (LoadVersion slot) post = (SlotFits post slot) × (kept.pairs ≡ [])
change_ready kept (LoadCount slot) post = (SlotFits post slot) × (kept.pairs ≡ [])
change_ready kept (LoadKey slot count) post = (SlotFits post slot) × (length kept.pairs < count) × (CountFits post count)
change_ready kept (LoadValue slot count key) post = (SlotFits post slot) × (length kept.pairs < count) × (CountFits post count)
change_ready kept (ExchangeRoot slot) post = (SlotFits post slot) × (VersionLeft post kept.version)

abbrev pub enqueue_ready : EnqueueKept → EnqueueAt → Post → Type 0
enqueue_ready kept LoadNumber post = Unit {0}
enqueue_ready kept LoadNext post = Unit {0}
enqueue_ready kept (PassTail next) post = (1 ≤ next) × (LinkFits post next)
enqueue_ready kept (ExchangeNext slot) post = (SlotFits post slot) × (VersionLeft post kept.number)
enqueue_ready kept (ExchangeTail slot) post = (SlotFits post slot) × (VersionLeft post kept.number)

abbrev pub dequeue_ready : DequeueAt → Post → Type 0
dequeue_ready (LoadTail head) post = SlotFits post head
dequeue_ready (SwingTail head next) post = (SlotFits post head) × (SlotFits post next)
dequeue_ready (TakeNumber head next) post = (SlotFits post head) × (SlotFits post next)
dequeue_ready (TakeValue head next number) post = (SlotFits post head) × (SlotFits post next)
dequeue_ready (ExchangeHead head next number value) post = (SlotFits post head) × (SlotFits post next)

-- a copy goes upwards, from an index from 2 on
abbrev pub CopyFits : Post → (from index : ℕ) → Type 0
CopyFits post from index = (2 ≤ from) × (from < index) × IndexFits post index

abbrev pub keep_ready : KeepAt → Post → Type 0
keep_ready (Loosens let_go) post = IndexFits post (let_index let_go)
keep_ready (LoadHeld from index) post = CopyFits post from index
keep_ready (StoreHeld from index era) post = (CopyFits post from index) × ShownFits (publishes_rows (scheme_of post)) post era
keep_ready (Looks index key at) post = get_ready at post
keep_ready (Misses index) post = IndexFits post index
keep_ready HideSpan post = Unit {0}
keep_ready MarkLeft post = Unit {0}
keep_ready (TakeList place) post = PlaceFits post place
keep_ready (MarkTaken place count) post = PlaceFits post place

abbrev pub work_ready : Work → Post → Type 0
work_ready (Getting key at) post = get_ready at post
work_ready (Changing kept at) post = (ChangeFits post kept) × change_ready kept at post
work_ready (Enqueuing kept at) post = (EnqueueFits post kept) × enqueue_ready kept at post
work_ready (Dequeuing at) post = dequeue_ready at post
work_ready (Keeping at) post = keep_ready at post

-- the entry at the place is of this slot, and what went back is no more than the rows
pub record BackFits (post : Post) (desk : Desk) (place slot : ℕ) : Type 0 where
  pub entry : slice_get (slots_of desk.list) place ≡ Some slot
  pub back : desk.report.back ≤ post.layout.config.slots

-- in a call no more goes back than two scans may give
abbrev pub NotesFit : Post → Desk → Type 0
NotesFit post desk = length desk.notes.back ≤ 2 * (post.layout.config.slots + 1)

abbrev pub scan_ready : ScanAt → Post → Desk → Type 0
scan_ready (ReadGuard number) post desk =
    (number < guards post.layout.config) × (length (read_before desk.report number) ≡ number)
scan_ready (GiveBack place slot) post desk = (SlotFits post slot) × (BackFits post desk place slot)

-- what holds where a call makes its next step
abbrev pub IsCallReady : Phase → Post → Desk → Type 0
IsCallReady Idle post desk = Unit {0}
IsCallReady (Runs why base) post desk = (IsReady base post) × why_ready why base post desk
IsCallReady (Scans later at) post desk = (LaterFits post later) × scan_ready at post desk
IsCallReady (Works work) post desk = work_ready work post

abbrev pub scan_plausible : ScanAt → Post → ℕ → Type 0
scan_plausible (ReadGuard number) post found = ShownFits (publishes_rows (scheme_of post)) post found
scan_plausible (GiveBack place slot) post found = Unit {0}

abbrev pub get_plausible : GetAt → Post → ℕ → Type 0
get_plausible (FindVersion slot) post found = VersionFits post found
get_plausible (FindCount slot version) post found = CountFits post found
get_plausible (FindKey slot version count pair) post found = Unit {0}
get_plausible (FindValue slot version pair) post found = Unit {0}

abbrev pub change_plausible : ChangeAt → Post → ℕ → Type 0
change_plausible (LoadVersion slot) post found = VersionFits post found
change_plausible (LoadCount slot) post found = CountFits post found
change_plausible (LoadKey slot count) post found = Unit {0}
change_plausible (LoadValue slot count key) post found = Unit {0}
change_plausible (ExchangeRoot slot) post found = Unit {0}

abbrev pub enqueue_plausible : EnqueueAt → Post → ℕ → Type 0
enqueue_plausible LoadNumber post found = VersionFits post found
enqueue_plausible LoadNext post found = LinkFits post found
enqueue_plausible (PassTail next) post found = Unit {0}
enqueue_plausible (ExchangeNext slot) post found = Unit {0}
enqueue_plausible (ExchangeTail slot) post found = Unit {0}

abbrev pub dequeue_plausible : DequeueAt → Post → ℕ → Type 0
dequeue_plausible (LoadTail head) post found = LinkFits post found
dequeue_plausible (SwingTail head next) post found = Unit {0}
dequeue_plausible (TakeNumber head next) post found = VersionFits post found
dequeue_plausible (TakeValue head next number) post found = Unit {0}
dequeue_plausible (ExchangeHead head next number value) post found = Unit {0}

abbrev pub keep_plausible : KeepAt → Post → ℕ → Type 0
keep_plausible (Loosens let_go) post found = Unit {0}
keep_plausible (LoadHeld from index) post found = ShownFits (publishes_rows (scheme_of post)) post found
keep_plausible (StoreHeld from index era) post found = Unit {0}
keep_plausible (Looks index key at) post found = get_plausible at post found
keep_plausible (Misses index) post found = Unit {0}
keep_plausible HideSpan post found = Unit {0}
keep_plausible MarkLeft post found = Unit {0}
keep_plausible (TakeList place) post found = Unit {0}
keep_plausible (MarkTaken place count) post found = Unit {0}

abbrev pub work_plausible : Work → Post → ℕ → Type 0
work_plausible (Getting key at) post found = get_plausible at post found
work_plausible (Changing kept at) post found = change_plausible at post found
work_plausible (Enqueuing kept at) post found = enqueue_plausible at post found
work_plausible (Dequeuing at) post found = dequeue_plausible at post found
work_plausible (Keeping at) post found = keep_plausible at post found

-- what the word may hold that a step finds
abbrev pub IsCallPlausible : Phase → Post → ℕ → Type 0
IsCallPlausible Idle post found = Unit {0}
IsCallPlausible (Runs why base) post found = Plausible base post found
IsCallPlausible (Scans later at) post found = scan_plausible at post found
IsCallPlausible (Works work) post found = work_plausible work post found
