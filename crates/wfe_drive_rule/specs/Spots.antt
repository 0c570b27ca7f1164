-- The block of the table: what it shows of words by number. A seat's slot is eight slots from the next one's.
use Rattle.std.specs.Prelude.{List, map, slice_index, ℕ, ◌*◌, ◌+◌}
use Rattle.std.specs.List.{range_with_len}
use Rattle.wfe_core.specs.words.Place.{first_bucket, words}
use Rattle.wfe_core.specs.words.declared.layout.Layout.{Layout}
use Rattle.wfe_drive_cells.specs.Spots.{spot}

-- how many words the block has
abbrev pub spots : Layout → ℕ
spots layout = words layout + 7 * (first_bucket layout + 3)

-- the words of a block, by number
abbrev pub shown : Layout → List ℕ → List ℕ
shown layout block = map (λ word. slice_index block (spot layout word)) (range_with_len 0 (words layout))

-- the number of a seat's slot
abbrev pub slot_at : (seat : ℕ) → ℕ
slot_at seat = 8 * seat
