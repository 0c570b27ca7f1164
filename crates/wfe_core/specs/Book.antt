-- The book: what the words alone do not show. It is read off the events, one by one.
use Rattle.std.specs.Prelude.{ℕ, ◌+◌, List, [], ◌∷◌, ◌++◌, length}
use Rattle.wfe_defs.specs.declared.event.Event.{Event}
use Rattle.wfe_defs.specs.declared.event.Event.TheVariants as events
use Rattle.wfe_defs.specs.declared.event.Root.{Root}
use Rattle.wfe_defs.specs.declared.event.Root.TheVariants as roots
use Rattle.wfe_defs.specs.declared.fold.Change.{Change}
use Rattle.wfe_defs.specs.declared.fold.Change.TheVariants as changes
use Rattle.wfe_core.specs.Memory.{upd}

-- a row: its birth era, its retire era or 0, and the root and the version or number under which it was linked last
pub record RowBook : Type 0 where
  pub birth : ℕ
  pub retire : ℕ
  pub root : Root
  pub version : ℕ

-- the changes of each bucket, the values queued, how many of them were taken, and the rows
pub record Book : Type 0 where
  pub changes : ℕ → List Change
  pub queued : List ℕ
  pub taken : ℕ
  pub row : ℕ → RowBook

-- the dummy was linked first, under number 0
abbrev pub first_row : RowBook
first_row = record { birth = 1; retire = 0; root = roots.Head; version = 0 }

abbrev pub first_book : Book
first_book = record { changes = λ bucket. []; queued = []; taken = 0; row = λ slot. first_row }

abbrev pub with_row : Book → ℕ → RowBook → Book
with_row book slot row = record book { row = upd book.row slot row }

abbrev pub with_change : Book → ℕ → Change → Book
with_change book bucket change = record book { changes = upd book.changes bucket (book.changes bucket ++ change ∷ []) }

-- the version or number of a row that is linked next; the queue's ends are moved to rows that were linked before
abbrev pub booked_link : Book → Root → ℕ → Book
booked_link book (roots.Bucket bucket) slot =
    with_row book slot (record (book.row slot) { root = roots.Bucket bucket; version = length (book.changes bucket) + 1 })
booked_link book (roots.Next parent) slot =
    with_row book slot (record (book.row slot) { root = roots.Next parent; version = length book.queued + 1 })
booked_link book roots.Head slot = book
booked_link book roots.Tail slot = book

-- the book with one event more
abbrev pub booked : Book → Event → Book
booked book (events.Give slot birth) = with_row book slot (record (book.row slot) { birth = birth; retire = 0 })
booked book (events.Link root slot) = booked_link book root slot
booked book (events.Retire slot birth retire) = with_row book slot (record (book.row slot) { birth = birth; retire = retire })
booked book (events.Put bucket version key value) = with_change book bucket (changes.Put key value)
booked book (events.Removed bucket version key) = with_change book bucket (changes.Removed key)
booked book (events.Queued number value) = record book { queued = book.queued ++ value ∷ [] }
booked book (events.Taken number value) = record book { taken = book.taken + 1 }
booked book event = book

-- the book with these events more
abbrev pub booked_all : Book → List Event → Book
booked_all book [] = book
booked_all book (event ∷ told) = booked_all (booked book event) told
