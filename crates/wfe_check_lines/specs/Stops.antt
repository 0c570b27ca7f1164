-- Why no more of a record is taken, by what its text and its entries are.
use Rattle.std.specs.Prelude.{ℕ, ◌≡◌, ◌++◌, ◌∷◌, List, Result, Ok, Err}
use Rattle.wfe_check_lines.specs.Reading.{IsGood, Reading, after_byte, after_bytes}
use Rattle.wfe_check_lines.specs.declared.stops.BadLine.{BadLine}
use Rattle.wfe_check_lines.specs.declared.stops.Stop.{Stop}
use Rattle.wfe_check_lines.specs.declared.stops.Stop.TheVariants as stops

-- By what the next byte, or the end, makes of the record: it is bad, or its entries up to a line are not good. Where memory ran out
-- nothing is said.
abbrev pub IsWhy : Stop → Result Reading BadLine → Type 0
IsWhy (stops.Bad bad) next = next ≡ Err bad
IsWhy (stops.Unlawful line) next = (after : Reading) × (next ≡ Ok after) × (IsGood after → ⊥) × (line ≡ after.lines)
IsWhy stops.NoMemory next = Unit {0}

-- Bytes of a record were taken up to one for which no more is: of those before it none is bad, and the entries that they tell are good.
pub record StopsAmid (r : Reading) (bytes : List ℕ) (stop : Stop) : Type 0 where
  pub closed : List ℕ
  pub byte : ℕ
  pub rest : List ℕ
  pub are : bytes ≡ closed ++ byte ∷ rest
  pub before : Reading
  pub came : after_bytes (Ok r) closed ≡ Ok before
  pub good : IsGood before
  pub why : IsWhy stop (after_byte before byte)
