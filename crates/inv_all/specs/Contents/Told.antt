-- What a step tells of the map and of the queue is what the changes of the bucket say that were told before it.
use Rattle.std.specs.Prelude.{ℕ, ◌≡◌, ◌≤◌, ◌+◌, ◌%◌, List, [], ◌∷◌, length, take, Option}
use Rattle.inv_ends.specs.model.defs.Pairs.{pairs_after, value_in}
use Rattle.inv_ends.specs.model.defs.declared.event.Event.{Event}
use Rattle.inv_ends.specs.model.defs.declared.call.Answer.TheVariants as answers
use Rattle.inv_ends.specs.model.defs.declared.event.Event.TheVariants as events
use Rattle.inv_ends.specs.model.defs.declared.event.Root.TheVariants as roots
use Rattle.inv_ends.specs.model.Book.{Book}
use Rattle.inv_ends.specs.model.Calls.{Answers, GetAt, Looks, Keeping, Works}
use Rattle.inv_ends.specs.model.Locals.{turn}
use Rattle.inv_ends.specs.model.World.{World, finds, offered, told_in}
use Rattle.inv_ends.specs.rows.Rows.{View}
use Rattle.inv_ends.specs.rows.Agree.{Agree, RowsNeeds}
use Rattle.inv_all.specs.Contents.Contents.{Contents, ContentsNeeds}

-- a get tells a version that there was, and the key's value among the pairs at that version
pub record GotRight (a : Book) (bucket version key : ℕ) (value : Option ℕ) : Type 0 where
  pub within : version ≤ length (a.changes bucket)
  pub right : value ≡ value_in (pairs_after (take version (a.changes bucket))) key

-- a change tells the next version of its key's bucket, in a table with so many buckets
pub record NextChange (n : ℕ) (a : Book) (bucket version key : ℕ) : Type 0 where
  pub place : bucket ≡ key % n
  pub next : version ≡ length (a.changes bucket) + 1

-- what an event says is right by the book before it; an enqueue tells the next number
abbrev pub TellsRight : ℕ → Book → Event → Type 0
TellsRight n a (events.Got bucket version key value) = GotRight a bucket version key value
TellsRight n a (events.Put bucket version key value) = NextChange n a bucket version key
TellsRight n a (events.Removed bucket version key) = NextChange n a bucket version key
TellsRight n a (events.Queued number value) = number ≡ length a.queued + 1
TellsRight n a event = Unit {0}

abbrev pub AllRight : ℕ → Book → List Event → Type 0
AllRight n a [] = Unit {0}
AllRight n a (event ∷ told) = TellsRight n a event × AllRight n a told

-- all that a step tells of the map is right by the book before it
abbrev pub ContentsTold : Type 0
ContentsTold = (w : World) (i : ℕ) (v : View) → RowsNeeds w i v → ContentsNeeds w i v → Agree w v → Contents w v → AllRight w.layout.config.buckets w.book (told_in w i)

-- a look answers the version under which its row was linked to a bucket, and the key's value among the pairs at that version
pub record LookRight (a : Book) (slot version key : ℕ) (value : Option ℕ) : Type 0 where
  pub bucket : ℕ
  pub root : (a.row slot).root ≡ roots.Bucket bucket
  pub shown : version ≡ (a.row slot).version
  pub was : version ≤ length (a.changes bucket)
  pub right : value ≡ value_in (pairs_after (take version (a.changes bucket))) key

abbrev pub ContentsLooked : Type 0
ContentsLooked =
    (w : World) (i : ℕ) (v : View) (index key : ℕ) (at : GetAt) (slot version : ℕ) (value : Option ℕ) → ContentsNeeds w i v → Contents w v
    → (w.seat i).phase ≡ Works (Keeping (Looks index key at)) → (turn (offered w i) (finds w i)).outcome ≡ Answers (answers.Looked slot version value)
    → LookRight w.book slot version key value
