-- Objects of several words: where their words lie in the table, and what a past shows of a cell and of its object.
use Rattle.std.specs.Prelude.{List, None, Option, Some, length, slice_index_or, ℕ, ◌%◌, ◌*◌, ◌++◌, ◌+◌, ◌/◌, ◌<◌, ◌≡◌, ◌≢◌, ◌≤◌}
use Rattle.wfe_core.specs.words.declared.layout.Layout.{Layout}
use Rattle.wfe_table.specs.Public.{TableNow}
use Rattle.wfe_table.specs.all.laws.StructuresAt.{count_of, value_at}
use Rattle.wfe_table.specs.history.History.{Item, record_of}
use Rattle.wfe_table.specs.history.Record.{Past}
use Rattle.wfe_cells.specs.declared.wide.Seen.{Seen}

-- the table, how many of its buckets are cells, and how many words an object has
pub record WideNow : Type 0 where
  pub table : TableNow
  pub cells : ℕ
  pub width : ℕ

-- An object is named by one number: a bucket past the cells, and the version of it at which the bucket's keys have the object's words. Zero
-- is none.
abbrev pub block_of : (object : ℕ) → ℕ
block_of object = object % 1024

abbrev pub made_at : (object : ℕ) → ℕ
made_at object = object / 1024

-- the number names this version of this bucket
pub record IsName (block version object : ℕ) : Type 0 where
  pub block_is : block_of object ≡ block
  pub version_is : made_at object ≡ version
  pub some : object ≢ 0

-- the key of a word, in its bucket
abbrev pub key_of : (buckets block word : ℕ) → ℕ
key_of buckets block word = block + buckets * word

-- what a cell's value names
abbrev pub named : Option ℕ → ℕ
named None = 0
named (Some object) = object

-- by this record the bucket had this version, and at it the key this value
pub record HasWord (p : Past) (bucket version key value : ℕ) : Type 0 where
  pub had : version ≤ count_of bucket p
  pub value_is : value_at bucket version key p ≡ Some value

-- and so the first of these words
abbrev pub HasWords : (buckets block version : ℕ) (words : List ℕ) (first : ℕ) → Past → Type 0
HasWords buckets block version words first p =
    (word : ℕ) → word < first → HasWord p block version (key_of buckets block word) (slice_index_or words word 0)

-- what was seen is this cell's: by this record it had this version, and at it this object, or none
pub record IsIn (p : Past) (cell : ℕ) (seen : Seen) : Type 0 where
  pub of : seen.cell ≡ cell
  pub had : seen.version ≤ count_of cell p
  pub names : named (value_at cell seen.version cell p) ≡ seen.object

-- and the object, if there is one, has these words
pub record IsShown (layout : Layout) (past : List Item) (cell : ℕ) (seen : Seen) (words : List ℕ) : Type 0 where
  pub within : IsIn (record_of layout past) cell seen
  pub object : seen.object ≢ 0 → HasWords layout.config.buckets (block_of seen.object) (made_at seen.object) words (length words) (record_of layout past)

-- the cell named this object, or none, at the version that was seen
abbrev pub IsNamed : Layout → List Item → Seen → (object : ℕ) → Type 0
IsNamed layout past seen object = IsIn (record_of layout past) seen.cell (record { cell = seen.cell; version = seen.version; object = object })

-- the object names a version of this bucket, at which it has these words
pub record IsWritten (layout : Layout) (past : List Item) (block : ℕ) (words : List ℕ) (object : ℕ) : Type 0 where
  pub some : object ≢ 0
  pub block_is : block_of object ≡ block
  pub words_are : HasWords layout.config.buckets (block_of object) (made_at object) words (length words) (record_of layout past)

-- the cell was changed at the version that was seen, and names this object now
pub record IsNext (layout : Layout) (past : List Item) (seen : Seen) (object : ℕ) (now : Seen) : Type 0 where
  pub within : IsIn (record_of layout past) seen.cell now
  pub object_is : now.object ≡ object
  pub next : now.version ≡ seen.version + 1

-- and its words are these, in this bucket
pub record IsPlaced (layout : Layout) (past : List Item) (seen : Seen) (block : ℕ) (words : List ℕ) (now : Seen) : Type 0 where
  pub shown : IsShown layout past seen.cell now words
  pub some : now.object ≢ 0
  pub block_is : block_of now.object ≡ block
  pub next : now.version ≡ seen.version + 1

-- What was seen of a cell at a version is the same for all: the object, and its words.
abbrev pub VersionsAgree : Type 0
VersionsAgree =
    (layout : Layout) (past more : List Item) (cell : ℕ) (a b : Seen) (xs ys : List ℕ)
    → IsShown layout past cell a xs
    → IsShown layout (past ++ more) cell b ys
    → a.version ≡ b.version
    → a.object ≢ 0
    → length xs ≡ length ys
    → (a.object ≡ b.object) × (xs ≡ ys)
