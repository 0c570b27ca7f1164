-- What other parts take of the queue's contents, and that what steps tell of the queue is right by the book.
use Rattle.std.specs.Prelude.{ℕ, ◌≡◌, ◌≤◌, ◌+◌, true, List, [], ◌∷◌, length}
use Rattle.inv_ends.specs.model.words.Place.Place.{Head, Row}
use Rattle.inv_ends.specs.model.defs.declared.event.Event.{Event}
use Rattle.inv_ends.specs.model.defs.declared.event.Event.TheVariants as events
use Rattle.inv_ends.specs.model.Book.{Book}
use Rattle.inv_ends.specs.model.Calls.{EnqueueKept, ExchangeNext, Work, Enqueuing, Works}
use Rattle.inv_ends.specs.model.World.{World, finds, told_in}
use Rattle.inv_ends.specs.shapes.Slots.{work_finds}
use Rattle.inv_ends.specs.rows.Rows.{View, is_settled}
use Rattle.inv_ends.specs.rows.Queue.{Line}
use Rattle.inv_ends.specs.rows.Chain.{Both}
use Rattle.inv_all.specs.Contents.Contents.{Contents}
use Rattle.inv_all.specs.Contents.Knows.{reads_in}
use Rattle.inv_all.specs.Contents.Reads.{value_under}
use Rattle.inv_all.specs.Contents.Items.{Items}
use Rattle.inv_all.specs.Contents.Bounded.{Bounded}

-- an enqueue that finds the tail's next link null has read the last row's number
abbrev pub LastNumber : Type 0
LastNumber =
    (w : World) (i : ℕ) (v : View) (l : Line) (kept : EnqueueKept) (slot : ℕ) → Both w v l → Items w v l
    → (w.seat i).phase ≡ Works (Enqueuing kept (ExchangeNext slot)) → w.mem (Row kept.tail 0) ≡ 0 → kept.number ≡ length w.book.queued

-- where the head's row has no next link, all that was queued was taken
abbrev pub EmptyRight : Type 0
EmptyRight =
    (w : World) (v : View) (l : Line) (h : ℕ) → Both w v l → Items w v l → w.mem Head ≡ h + 1 → w.mem (Row h 0) ≡ 0
    → w.book.taken ≡ length w.book.queued

-- no more was taken than queued, and numbers do not run out
pub record QueueCounts (w : World) : Type 0 where
  pub taken : w.book.taken ≤ length w.book.queued
  pub queued : length w.book.queued ≤ w.layout.config.last_version

abbrev pub ItemsCount : Type 0
ItemsCount = (w : World) (v : View) (l : Line) → Both w v l → Items w v l → QueueCounts w

-- a dequeue tells the next number, which was queued, and the value queued under it
pub record TakenRight (a : Book) (number value : ℕ) : Type 0 where
  pub next : number ≡ a.taken + 1
  pub within : number ≤ length a.queued
  pub right : value ≡ value_under a.queued number

-- what an event says of the queue is right by the book before it
abbrev pub QueueRight : Book → Event → Type 0
QueueRight a (events.Queued number value) = number ≡ length a.queued + 1
QueueRight a (events.Taken number value) = TakenRight a number value
QueueRight a event = Unit {0}

abbrev pub AllQueueRight : Book → List Event → Type 0
AllQueueRight a [] = Unit {0}
AllQueueRight a (event ∷ told) = QueueRight a event × AllQueueRight a told

-- all that a step tells of the queue is right by the book before the step
abbrev pub ItemsTold : Type 0
ItemsTold = (w : World) (i : ℕ) (v : View) (l : Line) → Both w v l → Items w v l → AllQueueRight w.book (told_in w i)

-- what a step of a call's own finds of a row's version, number and count of pairs is in range, if no row is given back of
-- which a get or a change has read
abbrev pub WorkFinds : Type 0
WorkFinds =
    (w : World) (i : ℕ) (v : View) (l : Line) (work : Work) → Both w v l → Items w v l → Contents w v → Bounded w
    → ((s : ℕ) → reads_in (w.seat i).phase s ≡ true → is_settled (v.status s) ≡ true)
    → (w.seat i).phase ≡ Works work → work_finds w.layout.config work (finds w i)
