-- What a seat's phase knows of rows: what it has read of a row that stands, and what it has written of its own.
use Rattle.std.specs.Prelude.{ℕ, ◌≡◌, ◌<◌, ◌+◌, ◌*◌, ◌%◌, ◌==◌, Bool, true, false, List, [], length, take, drop, slice_index_or, Some}
use Rattle.inv_ends.specs.model.words.Place.{Place}
use Rattle.inv_ends.specs.model.defs.Pairs.{Pair, changed, value_in}
use Rattle.inv_ends.specs.model.defs.declared.event.Root.TheVariants as roots
use Rattle.inv_ends.specs.model.Phases.{RowOf, Base}
use Rattle.inv_ends.specs.model.Phases.Base.{Begin, Protect, Reload, Clear, Finish, Release, Allocate, Write, GiveUp, Retire, Move}
use Rattle.inv_ends.specs.model.Rounds.{key_of}
use Rattle.inv_ends.specs.model.Change.{new_row}
use Rattle.inv_ends.specs.model.Enqueue.{new_item}
use Rattle.inv_ends.specs.model.Calls.{EnqueueKept, EnqueueAt, LoadNumber, LoadNext, PassTail, ExchangeNext, ExchangeTail, ChangeKept, Task, Gets, Changes, Holds, Enqueues, Dequeues, Why, Opens, FollowsHead, Fills, GetAt, FindVersion, FindCount, FindKey, FindValue, ChangeAt, LoadVersion, LoadCount, LoadKey, LoadValue, ExchangeRoot, KeepAt, Looks, Work, Getting, Changing, Enqueuing, Dequeuing, Keeping, Phase, Idle, Runs, Scans, Works}
use Rattle.inv_all.specs.Contents.Shelf.{Shelf, Filled}

-- what a seat's knowledge is of: the number of buckets, what rows show by the book, and the words
pub record Ground : Type 0 where
  pub buckets : ℕ
  pub shelf : Shelf
  pub mem : Place → ℕ

-- the key or the value of a pair by its number
abbrev pub pair_at : List Pair → ℕ → Pair
pair_at pairs n = slice_index_or pairs n (0, 0)

-- a row of the bucket, whose version was read
pub record FoundRow (g : Ground) (bucket slot version : ℕ) : Type 0 where
  pub root : g.shelf.root slot ≡ roots.Bucket bucket
  pub shown : version ≡ g.shelf.version slot

-- the key is none of the first so many pairs
pub record FoundKeys (g : Ground) (bucket key slot version count pair : ℕ) : Type 0 where
  pub row : FoundRow g bucket slot version
  pub counted : count ≡ length (g.shelf.pairs slot)
  pub more : pair < count
  pub value : value_in (g.shelf.pairs slot) key ≡ value_in (drop pair (g.shelf.pairs slot)) key

-- the key is that of a pair
pub record FoundOwn (g : Ground) (bucket key slot version pair : ℕ) : Type 0 where
  pub row : FoundRow g bucket slot version
  pub more : pair < length (g.shelf.pairs slot)
  pub value : value_in (g.shelf.pairs slot) key ≡ Some (pair_at (g.shelf.pairs slot) pair).1

-- a key is looked for in a row of the bucket
abbrev pub GetKnows : Ground → (bucket key : ℕ) → GetAt → Type 0
GetKnows g bucket key (FindVersion slot) = g.shelf.root slot ≡ roots.Bucket bucket
GetKnows g bucket key (FindCount slot version) = FoundRow g bucket slot version
GetKnows g bucket key (FindKey slot version count pair) = FoundKeys g bucket key slot version count pair
GetKnows g bucket key (FindValue slot version pair) = FoundOwn g bucket key slot version pair

-- a look reads a row of some bucket
pub record LookKnows (g : Ground) (key : ℕ) (at : GetAt) : Type 0 where
  pub bucket : ℕ
  pub reads : GetKnows g bucket key at

-- the bucket that is changed
abbrev pub changes_in : Ground → ChangeKept → ℕ
changes_in g kept = key_of kept.change % g.buckets

-- the row of the link that the root had, and that no pair of it was read yet
pub record AtRow (g : Ground) (kept : ChangeKept) (slot : ℕ) : Type 0 where
  pub link : kept.link ≡ slot + 1
  pub root : g.shelf.root slot ≡ roots.Bucket (changes_in g kept)
  pub none : kept.pairs ≡ []

pub record AtCount (g : Ground) (kept : ChangeKept) (slot : ℕ) : Type 0 where
  pub row : AtRow g kept slot
  pub version : kept.version ≡ g.shelf.version slot

-- the pairs read are the first of the row's
pub record AtKey (g : Ground) (kept : ChangeKept) (slot count : ℕ) : Type 0 where
  pub link : kept.link ≡ slot + 1
  pub root : g.shelf.root slot ≡ roots.Bucket (changes_in g kept)
  pub version : kept.version ≡ g.shelf.version slot
  pub counted : count ≡ length (g.shelf.pairs slot)
  pub more : length kept.pairs < count
  pub pairs : kept.pairs ≡ take (length kept.pairs) (g.shelf.pairs slot)

pub record AtValue (g : Ground) (kept : ChangeKept) (slot count key : ℕ) : Type 0 where
  pub row : AtKey g kept slot count
  pub own : key ≡ (pair_at (g.shelf.pairs slot) (length kept.pairs)).0

-- the new pairs are those of the row that the link led to, with the change; those of no row are none, under version 0
pub record Decided (g : Ground) (kept : ChangeKept) : Type 0 where
  pub fresh : kept.link ≡ 0 → kept.version ≡ 0
  pub none : kept.link ≡ 0 → kept.pairs ≡ changed [] kept.change
  pub root : (s : ℕ) → kept.link ≡ s + 1 → g.shelf.root s ≡ roots.Bucket (changes_in g kept)
  pub version : (s : ℕ) → kept.link ≡ s + 1 → kept.version ≡ g.shelf.version s
  pub pairs : (s : ℕ) → kept.link ≡ s + 1 → kept.pairs ≡ changed (g.shelf.pairs s) kept.change

-- the new row is written
pub record Ready (g : Ground) (kept : ChangeKept) (slot : ℕ) : Type 0 where
  pub decided : Decided g kept
  pub words : Filled g.mem slot (new_row kept) (3 + 2 * length kept.pairs)

-- up to below this place
pub record Writing (g : Ground) (kept : ChangeKept) (slot : ℕ) (row : RowOf) (place : ℕ) : Type 0 where
  pub decided : Decided g kept
  pub same : row ≡ new_row kept
  pub words : Filled g.mem slot row place

abbrev pub ChangeKnows : Ground → ChangeKept → ChangeAt → Type 0
ChangeKnows g kept (LoadVersion slot) = AtRow g kept slot
ChangeKnows g kept (LoadCount slot) = AtCount g kept slot
ChangeKnows g kept (LoadKey slot count) = AtKey g kept slot count
ChangeKnows g kept (LoadValue slot count key) = AtValue g kept slot count key
ChangeKnows g kept (ExchangeRoot slot) = Ready g kept slot

abbrev pub FillKnows : Ground → ChangeKept → Base → Type 0
FillKnows g kept (Begin at) = Decided g kept
FillKnows g kept (Protect aim index root steps at) = Decided g kept
FillKnows g kept (Reload parent index slot era steps) = Decided g kept
FillKnows g kept (Clear rows index) = Decided g kept
FillKnows g kept Finish = Decided g kept
FillKnows g kept (Release index) = Decided g kept
FillKnows g kept (Allocate at) = Decided g kept
FillKnows g kept (Write slot row place) = Writing g kept slot row place
FillKnows g kept (GiveUp slot) = Decided g kept
FillKnows g kept (Retire at) = Decided g kept
FillKnows g kept (Move at) = Decided g kept

-- a row of the queue is written up to below this place
pub record WritingItem (g : Ground) (kept : EnqueueKept) (slot : ℕ) (row : RowOf) (place : ℕ) : Type 0 where
  pub same : row ≡ new_item kept
  pub words : Filled g.mem slot row place

abbrev pub ItemKnows : Ground → EnqueueKept → Base → Type 0
ItemKnows g kept (Begin at) = Unit {0}
ItemKnows g kept (Protect aim index root steps at) = Unit {0}
ItemKnows g kept (Reload parent index slot era steps) = Unit {0}
ItemKnows g kept (Clear rows index) = Unit {0}
ItemKnows g kept Finish = Unit {0}
ItemKnows g kept (Release index) = Unit {0}
ItemKnows g kept (Allocate at) = Unit {0}
ItemKnows g kept (Write slot row place) = WritingItem g kept slot row place
ItemKnows g kept base = Unit {0}

abbrev pub EnqueueKnows : Ground → EnqueueKept → EnqueueAt → Type 0
EnqueueKnows g kept LoadNumber = Unit {0}
EnqueueKnows g kept LoadNext = Unit {0}
EnqueueKnows g kept (PassTail next) = Unit {0}
EnqueueKnows g kept (ExchangeNext slot) = Filled g.mem slot (new_item kept) 3
EnqueueKnows g kept (ExchangeTail slot) = Unit {0}

abbrev pub TaskKnows : Ground → Task → Base → Type 0
TaskKnows g (Gets key) base = Unit {0}
TaskKnows g (Changes kept) base = FillKnows g kept base
TaskKnows g (Holds key) base = Unit {0}
TaskKnows g (Enqueues kept) base = ItemKnows g kept base
TaskKnows g Dequeues base = Unit {0}

abbrev pub WhyKnows : Ground → Why → Base → Type 0
WhyKnows g (Opens task) base = Unit {0}
WhyKnows g (FollowsHead head tail) base = Unit {0}
WhyKnows g (Fills task) base = TaskKnows g task base
WhyKnows g why base = Unit {0}

abbrev pub KeepKnows : Ground → KeepAt → Type 0
KeepKnows g (Looks index key at) = LookKnows g key at
KeepKnows g at = Unit {0}

abbrev pub WorkKnows : Ground → Work → Type 0
WorkKnows g (Getting key at) = GetKnows g (key % g.buckets) key at
WorkKnows g (Changing kept at) = ChangeKnows g kept at
WorkKnows g (Enqueuing kept at) = EnqueueKnows g kept at
WorkKnows g (Dequeuing at) = Unit {0}
WorkKnows g (Keeping at) = KeepKnows g at

-- what a seat knows of rows
abbrev pub Knows : Ground → Phase → Type 0
Knows g Idle = Unit {0}
Knows g (Runs why base) = WhyKnows g why base
Knows g (Scans later at) = Unit {0}
Knows g (Works work) = WorkKnows g work

-- a look is under way
abbrev pub looks_in : Phase → Bool
looks_in (Works (Keeping (Looks index key at))) = true
looks_in phase = false

-- the rows that it knows of

abbrev pub get_reads : GetAt → ℕ → Bool
get_reads (FindVersion slot) s = slot == s
get_reads (FindCount slot version) s = slot == s
get_reads (FindKey slot version count pair) s = slot == s
get_reads (FindValue slot version pair) s = slot == s

abbrev pub task_reads : Task → ℕ → Bool
task_reads (Gets key) s = false
task_reads (Changes kept) s = kept.link == s + 1
task_reads task s = false

abbrev pub why_reads : Why → ℕ → Bool
why_reads (Opens task) s = false
why_reads (FollowsHead head tail) s = false
why_reads (Fills task) s = task_reads task s
why_reads why s = false

abbrev pub keep_reads : KeepAt → ℕ → Bool
keep_reads (Looks index key at) s = get_reads at s
keep_reads at s = false

abbrev pub work_reads : Work → ℕ → Bool
work_reads (Getting key at) s = get_reads at s
work_reads (Changing kept at) s = kept.link == s + 1
work_reads (Enqueuing kept at) s = false
work_reads (Dequeuing at) s = false
work_reads (Keeping at) s = keep_reads at s

-- a get, a change or a look goes on with what it read of row s
abbrev pub reads_in : Phase → ℕ → Bool
reads_in Idle s = false
reads_in (Runs why base) s = why_reads why s
reads_in (Scans later at) s = false
reads_in (Works work) s = work_reads work s

-- the row whose words it writes or has written, and has not linked

abbrev pub base_owns : Base → ℕ → Bool
base_owns (Begin at) s = false
base_owns (Protect aim index root steps at) s = false
base_owns (Reload parent index slot era steps) s = false
base_owns (Clear rows index) s = false
base_owns Finish s = false
base_owns (Release index) s = false
base_owns (Allocate at) s = false
base_owns (Write slot row place) s = slot == s
base_owns base s = false

abbrev pub why_owns : Why → Base → ℕ → Bool
why_owns (Opens task) base s = false
why_owns (FollowsHead head tail) base s = false
why_owns (Fills task) base s = base_owns base s
why_owns why base s = false

abbrev pub change_owns : ChangeAt → ℕ → Bool
change_owns (LoadVersion slot) s = false
change_owns (LoadCount slot) s = false
change_owns (LoadKey slot count) s = false
change_owns (LoadValue slot count key) s = false
change_owns (ExchangeRoot slot) s = slot == s

abbrev pub enqueue_owns : EnqueueAt → ℕ → Bool
enqueue_owns LoadNumber s = false
enqueue_owns LoadNext s = false
enqueue_owns (PassTail next) s = false
enqueue_owns (ExchangeNext slot) s = slot == s
enqueue_owns (ExchangeTail slot) s = false

abbrev pub work_owns : Work → ℕ → Bool
work_owns (Getting key at) s = false
work_owns (Changing kept at) s = change_owns at s
work_owns (Enqueuing kept at) s = enqueue_owns at s
work_owns (Dequeuing at) s = false
work_owns (Keeping at) s = false

abbrev pub owns_in : Phase → ℕ → Bool
owns_in Idle s = false
owns_in (Runs why base) s = why_owns why base s
owns_in (Scans later at) s = false
owns_in (Works work) s = work_owns work s
