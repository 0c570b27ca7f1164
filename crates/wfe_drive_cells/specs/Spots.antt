-- Where words lie in the block of the table that threads share. The clock, the words of seats, the head and the tail lie eight words
-- apart, so that no two of them share a cache line; roots, claim words and rows lie side by side.
use Rattle.std.specs.Prelude.{min, ℕ, ◌*◌, ◌+◌, ◌-◌, ◌≡◌}
use Rattle.wfe_core.specs.Memory.{Move, numbered}
use Rattle.wfe_core.specs.declared.op.Op.{Op}
use Rattle.wfe_core.specs.words.Place.{first_bucket, head_number}
use Rattle.wfe_core.specs.words.declared.layout.Layout.{Layout}
use Rattle.wfe_drive_cells.specs.Operations.{word_in}
use Rattle.wfe_drive_cells.specs.declared.located.Located.{Located}
use Rattle.wfe_drive_cells.specs.declared.spots.Spots.{Spots}

-- how many gaps of seven words lie before a word: as many as words before it, up to the first root, and one each before the head,
-- before the tail and after it
abbrev pub gaps : (roots head word : ℕ) → ℕ
gaps roots head word = min word roots + min 3 (word + 1 - head)

abbrev pub spot_by : (roots head word : ℕ) → ℕ
spot_by roots head word = word + 7 * gaps roots head word

-- the spot of the word of a number, in the table's block
abbrev pub spot : Layout → ℕ → ℕ
spot layout word = spot_by (first_bucket layout) (head_number layout) word

-- these are the layout's
pub record IsFor (layout : Layout) (own : Spots) : Type 0 where
  pub roots : own.roots ≡ first_bucket layout
  pub head : own.head ≡ head_number layout

-- an operation, with the spot of its word
abbrev pub located : Layout → Op → Located
located layout op = record { op = op; spot = spot layout (word_in op) }

-- that of a move
abbrev pub spotted : Layout → Move → Located
spotted layout m = located layout (numbered layout m)
