-- What the book says that each row of the map shows, and when the words of a row show it.
use Rattle.std.specs.Prelude.{ℕ, ◌≡◌, ◌≤◌, ◌<◌, ◌+◌, ◌-◌, ◌*◌, List, [], length, take, slice_index_or}
use Rattle.inv_ends.specs.model.words.Place.{Place}
use Rattle.inv_ends.specs.model.words.Place.Place.{Row}
use Rattle.inv_ends.specs.model.defs.Pairs.{Pair, pairs_after}
use Rattle.inv_ends.specs.model.defs.declared.event.Root.{Root}
use Rattle.inv_ends.specs.model.defs.declared.event.Root.TheVariants as roots
use Rattle.inv_ends.specs.model.defs.declared.fold.Change.{Change}
use Rattle.inv_ends.specs.model.Book.{Book}
use Rattle.inv_ends.specs.model.Phases.{RowOf, MapRow}
use Rattle.inv_ends.specs.model.WriteRow.{row_word}

-- by slot: the root and the version under which the row was linked last, and the pairs of the bucket at that version; by
-- bucket how often it was changed; and by slot the value that was queued under the row's number
pub record Shelf : Type 0 where
  pub root : ℕ → Root
  pub version : ℕ → ℕ
  pub pairs : ℕ → List Pair
  pub count : ℕ → ℕ
  pub value : ℕ → ℕ

-- the pairs of a root at a version; only buckets have pairs
abbrev pub pairs_by : (ℕ → List Change) → Root → ℕ → List Pair
pairs_by changes (roots.Bucket bucket) version = pairs_after (take version (changes bucket))
pairs_by changes (roots.Next parent) version = []
pairs_by changes roots.Head version = []
pairs_by changes roots.Tail version = []

-- the value of a number that was queued behind a row
abbrev pub value_by : List ℕ → Root → ℕ → ℕ
value_by queued (roots.Bucket bucket) number = 0
value_by queued (roots.Next parent) number = slice_index_or queued (number - 1) 0
value_by queued roots.Head number = 0
value_by queued roots.Tail number = 0

abbrev pub shelf_of : Book → Shelf
shelf_of book =
    record {
      root = λ s. (book.row s).root;
      version = λ s. (book.row s).version;
      pairs = λ s. pairs_by book.changes (book.row s).root (book.row s).version;
      count = λ b. length (book.changes b);
      value = λ s. value_by book.queued (book.row s).root (book.row s).version;
    }

-- the slot was linked last to a bucket's root
pub record OfBucket (a : Shelf) (slot : ℕ) : Type 0 where
  pub bucket : ℕ
  pub root : a.root slot ≡ roots.Bucket bucket

-- the words of a slot from place 1 up to below a place are those of a row
abbrev pub Filled : (Place → ℕ) → ℕ → RowOf → ℕ → Type 0
Filled mem slot row place = (q : ℕ) → 1 ≤ q → q < place → mem (Row slot q) ≡ row_word row q

-- a slot shows a version and pairs: the version, the count of the pairs, and each key and value
abbrev pub Shows : (Place → ℕ) → ℕ → ℕ → List Pair → Type 0
Shows mem slot version pairs = Filled mem slot (MapRow version pairs) (3 + 2 * length pairs)
