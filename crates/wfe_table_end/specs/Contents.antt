-- What the words of a table show of its buckets, of its queue and of its rows, by place and in no other way.
use Rattle.std.specs.Prelude.{Bool, List, [], filter, if◌then◌else◌, length, map, suc, true, zero, ℕ, ◌+◌, ◌-◌, ◌<◌, ◌==◌, ◌^◌, ◌≡◌, ◌≤◌, ◌∷◌}
use Rattle.std.specs.List.{range_with_len}
use Rattle.wfe_core.specs.Allocate.{is_claimed}
use Rattle.wfe_core.specs.Get.{key_place, value_place}
use Rattle.wfe_core.specs.defs.Pairs.{Pair}
use Rattle.laws.specs.StructuresAt.{Filling}
use Rattle.wfe_core.specs.words.Place.{Place, claim_word, is_valid, row_count, words}
use Rattle.wfe_core.specs.words.Place.Place.{Bucket, Claim, Clock, Head, Row}
use Rattle.wfe_core.specs.words.declared.layout.Layout.{Layout}
use Rattle.wfe_drive_cells.specs.Memory.{memory}
use Rattle.wfe_table_end.specs.declared.closed.BucketRow.{BucketRow}
use Rattle.wfe_table_end.specs.declared.closed.Closed.{Closed}

-- a bucket as code keeps it
abbrev pub filling_of : BucketRow → Filling
filling_of row = record { version = row.version; pairs = row.pairs.items }

-- a pair of a row, by its number from 0
abbrev pub pair_in : (Place → ℕ) → ℕ → ℕ → Pair
pair_in mem slot pair = (mem (Row slot (key_place pair)), mem (Row slot (value_place pair)))

-- as many pairs as the row counts
abbrev pub pairs_in : (Place → ℕ) → ℕ → List Pair
pairs_in mem slot = map (pair_in mem slot) (range_with_len 0 (mem (Row slot 2)))

-- what a root with this link shows: nothing was changed where it is null
abbrev pub filling_by : (Place → ℕ) → ℕ → Filling
filling_by mem link =
    if link == 0 then record { version = 0; pairs = [] }
    else record { version = mem (Row (link - 1) 1); pairs = pairs_in mem (link - 1) }

-- what a bucket's root shows
abbrev pub filling_in : (Place → ℕ) → ℕ → Filling
filling_in mem bucket = filling_by mem (mem (Bucket bucket))

-- number and value of a row of the queue
abbrev pub item_in : (Place → ℕ) → ℕ → ℕ × ℕ
item_in mem slot = (mem (Row slot 1), mem (Row slot 2))

-- those of the rows to which next links lead from a row on, at most so many
abbrev pub items_after : (Place → ℕ) → ℕ → ℕ → List (ℕ × ℕ)
items_after mem zero slot = []
items_after mem (suc rows) slot =
    if mem (Row slot 0) == 0 then []
    else item_in mem (mem (Row slot 0) - 1) ∷ items_after mem rows (mem (Row slot 0) - 1)

-- the claim words show the row taken
abbrev pub is_used : (Place → ℕ) → ℕ → Bool
is_used mem slot = is_claimed (mem (Claim (claim_word slot))) slot

-- the numbers below an end that pass a test, rising
abbrev pub numbers_where : (ℕ → Bool) → ℕ → List ℕ
numbers_where test end = filter test (range_with_len 0 end)

-- the list has the words of a table, and no others
pub record IsWhole (layout : Layout) (list : List ℕ) : Type 0 where
  pub valid : is_valid layout ≡ true
  pub count : length list ≡ words layout

-- what is read of the words stays within the table, and within the numbers that code reads it into
pub record IsReadable (layout : Layout) (mem : Place → ℕ) : Type 0 where
  pub clock : mem Clock < 2 ^ 32
  pub roots : (bucket : ℕ) → mem (Bucket bucket) ≤ row_count layout
  pub counts : (bucket slot : ℕ) → mem (Bucket bucket) ≡ slot + 1 → mem (Row slot 2) ≤ layout.config.pairs
  pub some : 0 < mem Head
  pub head : mem Head ≤ row_count layout
  pub nexts : (slot : ℕ) → mem (Row slot 0) ≤ row_count layout

-- all of it is what the words show
pub record IsRead (layout : Layout) (list : List ℕ) (closed : Closed) : Type 0 where
  pub clock : closed.clock ≡ memory layout list Clock
  pub buckets : map filling_of closed.buckets.items ≡ map (filling_in (memory layout list)) (range_with_len 0 layout.config.buckets)
  pub queue : closed.queue.items ≡ items_after (memory layout list) (row_count layout) (memory layout list Head - 1)
  pub used : closed.used.items ≡ numbers_where (is_used (memory layout list)) (row_count layout)
