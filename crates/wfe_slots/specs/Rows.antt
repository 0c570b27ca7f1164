-- What a row gets, as in the model.
use Rattle.std.specs.Prelude.{ℕ, take}
use Rattle.wfe_core.specs.Phases.{RowOf, MapRow, QueueRow}
use Rattle.wfe_slots.specs.declared.write_row.Row.{Row}
use Rattle.wfe_slots.specs.declared.write_row.Row.TheVariants as rows

-- how many pairs the row gets
abbrev pub pair_count : Row → ℕ
pair_count (rows.Map version count pairs) = count
pair_count (rows.Queue number value) = 0

abbrev pub row_of : Row → RowOf
row_of (rows.Map version count pairs) = MapRow version (take count pairs)
row_of (rows.Queue number value) = QueueRow number value
