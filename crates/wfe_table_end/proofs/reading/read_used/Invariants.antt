-- The rows so far are those among the first ones that are taken.
use Rattle.std.proofs.Common.{◌≡◌, ◌≤◌}
use Rattle.std.specs.Vec.{vec_capacity, vec_len}
use Rattle.wfe_core.specs.words.Place.{row_count}
use Rattle.wfe_drive_cells.specs.Memory.{memory}
use Rattle.wfe_table_end.specs.Contents.{is_used, numbers_where}
use Rattle.wfe_table_end.proofs.reading.read_used.Given as goal

abbrev pub invariant-loop-slot : goal.invariant-loop-slot
invariant-loop-slot l = record {
  read : l.used.items ≡ numbers_where (is_used (memory l.layout l.words)) l.slot;
  count : vec_len l.used ≤ l.slot;
  room : row_count l.layout ≤ vec_capacity l.used;
}
