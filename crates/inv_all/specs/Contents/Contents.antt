-- What rows of the map and of the queue show in a World, what a step owes to the other parts of the invariant for it, and that steps keep it.
use Rattle.std.specs.Prelude.{ℕ, ◌≡◌, ◌≤◌, ◌<◌, ◌-◌, ◌==◌, ◌%◌, true, length, Some}
use Rattle.inv_ends.specs.model.words.Place.{is_valid}
use Rattle.inv_ends.specs.model.words.declared.layout.Layout.{Layout}
use Rattle.inv_ends.specs.model.words.Place.Place.{Row}
use Rattle.inv_ends.specs.model.defs.declared.call.Call.{Call}
use Rattle.inv_ends.specs.model.defs.declared.event.Root.{Root}
use Rattle.inv_ends.specs.model.defs.declared.event.Root.TheVariants as roots
use Rattle.inv_ends.specs.model.declared.ends.ProtectEnd.TheVariants as protect_ends
use Rattle.inv_ends.specs.model.declared.post.Post.{Post}
use Rattle.inv_ends.specs.model.Locals.{may_begin}
use Rattle.inv_ends.specs.model.Phases.{QueueRow, Aim, ProtectAt, Base, Ends, Protected}
use Rattle.inv_ends.specs.model.Phases.Base.{Protect}
use Rattle.inv_ends.specs.model.Posts.{counted, stands}
use Rattle.inv_ends.specs.model.Machine.{after}
use Rattle.inv_ends.specs.model.Rounds.{key_of}
use Rattle.inv_ends.specs.model.Calls.{EnqueueKept, ExchangeNext, Works, Enqueuing, ChangeKept, Gets, Changes, Holds, Opens, Runs}
use Rattle.inv_ends.specs.model.Book.{Book}
use Rattle.inv_ends.specs.model.World.{World, start, step, begin, finds}
use Rattle.inv_ends.specs.rows.Rows.{View, is_settled}
use Rattle.inv_ends.specs.rows.Rows.Status.{Linked}
use Rattle.inv_ends.specs.rows.Agree.{Agree, RowsNeeds, rows_after, first_rows}
use Rattle.inv_ends.specs.requests.Parents.{rises_at}
use Rattle.inv_ends.specs.shapes.Seats.{Seats}
use Rattle.inv_ends.specs.shapes.Slots.{Slots}
use Rattle.inv_all.specs.Contents.Shelf.{Shelf, Filled, shelf_of, Shows, OfBucket}
use Rattle.inv_all.specs.Contents.Knows.{Ground, Knows, reads_in}

abbrev pub ground_of : World → Ground
ground_of w = record { buckets = w.layout.config.buckets; shelf = shelf_of w.book; mem = w.mem }

-- rows and book agree: a row that a bucket's root leads to or led to shows its version and the pairs at that version, which
-- is one of the bucket's; the row that the root leads to shows the last; and the root is null while nothing was changed
-- (`items`, `queued`: a row that was linked behind another in the queue shows its number and the value of that number)
pub record Shelved (g : Ground) (book : Book) (v : View) : Type 0 where
  pub shows : (s b : ℕ) → is_settled (v.status s) ≡ true → g.shelf.root s ≡ roots.Bucket b → Shows g.mem s (g.shelf.version s) (g.shelf.pairs s)
  pub within : (s b : ℕ) → is_settled (v.status s) ≡ true → g.shelf.root s ≡ roots.Bucket b → g.shelf.version s ≤ length (book.changes b)
  pub root : (s b : ℕ) → v.status s ≡ Linked b → g.shelf.root s ≡ roots.Bucket b
  pub latest : (s b : ℕ) → v.status s ≡ Linked b → g.shelf.version s ≡ length (book.changes b)
  pub items : (s parent : ℕ) → is_settled (v.status s) ≡ true → g.shelf.root s ≡ roots.Next parent → Filled g.mem s (QueueRow (g.shelf.version s) (g.shelf.value s)) 3
  pub queued : (s parent : ℕ) → is_settled (v.status s) ≡ true → g.shelf.root s ≡ roots.Next parent → g.shelf.version s - 1 < length book.queued
  pub empty : (b : ℕ) → (v.root b == 0) ≡ (length (book.changes b) == 0)

-- what stands at an index from 2 on was linked last to a bucket's root
abbrev pub KeptRows : Shelf → Post → Type 0
KeptRows a post = (j s : ℕ) → 2 ≤ j → stands post j ≡ Some s → OfBucket a s

pub record Contents (w : World) (v : View) : Type 0 where
  pub rows : Shelved (ground_of w) w.book v
  pub seats : (k : ℕ) → Knows (ground_of w) (w.seat k).phase
  pub kept : (k : ℕ) → KeptRows (shelf_of w.book) (w.seat k).post

-- what a step of seat i needs of the other parts of the invariant
pub record ContentsNeeds (w : World) (i : ℕ) (v : View) : Type 0 where
  -- the table is valid, and posts, phases and slots are of it
  pub valid : is_valid w.layout ≡ true
  pub shapes : Seats w
  pub slots : Slots w
  -- a row that stands is not given back, and so is none of which a seat has read
  pub stood : (k j s : ℕ) → stands (w.seat k).post j ≡ Some s → is_settled (v.status s) ≡ true
  pub held : (k s : ℕ) → reads_in (w.seat k).phase s ≡ true → is_settled (v.status s) ≡ true
  -- a row that was protected from a bucket's root was linked there last
  pub gets : (key slot era : ℕ) (base : Base) → (w.seat i).phase ≡ Runs (Opens (Gets key)) base → (after base (counted (w.seat i).post) (finds w i)).outcome ≡ Ends (Protected (protect_ends.Held slot era)) → (w.book.row slot).root ≡ roots.Bucket (key % w.layout.config.buckets)
  pub changes : (kept : ChangeKept) (slot era : ℕ) (base : Base) → (w.seat i).phase ≡ Runs (Opens (Changes kept)) base → (after base (counted (w.seat i).post) (finds w i)).outcome ≡ Ends (Protected (protect_ends.Held slot era)) → (w.book.row slot).root ≡ roots.Bucket (key_of kept.change % w.layout.config.buckets)
  -- so was a row that begins to stand for a hold
  pub holds : (key : ℕ) (aim : Aim) (index : ℕ) (root : Root) (steps : ℕ) (at : ProtectAt) (s : ℕ) → (w.seat i).phase ≡ Runs (Opens (Holds key)) (Protect aim index root steps at) → rises_at (w.seat i).post at (finds w i) s ≡ true → (w.book.row s).root ≡ roots.Bucket (key % w.layout.config.buckets)
  -- an enqueue that finds the tail's next link null has read the last row's number
  pub last : (kept : EnqueueKept) (slot : ℕ) → (w.seat i).phase ≡ Works (Enqueuing kept (ExchangeNext slot)) → w.mem (Row kept.tail 0) ≡ 0 → kept.number ≡ length w.book.queued

abbrev pub ContentsStart : Type 0
ContentsStart = (layout : Layout) → is_valid layout ≡ true → Contents (start layout) (first_rows layout)

-- the index that a look names is from 2 on
abbrev pub ContentsBegin : Type 0
ContentsBegin = (w : World) (i : ℕ) (call : Call) (v : View) → may_begin w.layout.config call ≡ true → Contents w v → Contents (begin w i call) v

abbrev pub ContentsKept : Type 0
ContentsKept = (w : World) (i : ℕ) (v : View) → RowsNeeds w i v → ContentsNeeds w i v → Agree w v → Contents w v → Contents (step w i) (rows_after w i v)
