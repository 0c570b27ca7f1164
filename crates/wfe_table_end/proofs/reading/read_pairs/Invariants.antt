-- The pairs so far are the first ones of the row.
use Rattle.std.proofs.Common.{map, ◌≡◌, ◌≤◌}
use Rattle.std.specs.List.{range_with_len}
use Rattle.std.specs.Vec.{vec_capacity, vec_len}
use Rattle.wfe_drive_cells.specs.Memory.{memory}
use Rattle.wfe_table_end.specs.Contents.{pair_in}
use Rattle.wfe_table_end.proofs.reading.read_pairs.Given as goal

abbrev pub invariant-loop-pair : goal.invariant-loop-pair
invariant-loop-pair l = record {
  read : l.pairs.items ≡ map (pair_in (memory l.layout l.words) l.slot) (range_with_len 0 l.pair);
  count : vec_len l.pairs ≡ l.pair;
  room : l.layout.config.pairs ≤ vec_capacity l.pairs;
}
