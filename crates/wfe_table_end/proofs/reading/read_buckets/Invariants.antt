-- The buckets so far are the first ones, and as many empty ones are left as there are to come.
use Rattle.std.proofs.Common.{All, map, ◌+◌, ◌≡◌, ◌≤◌}
use Rattle.std.specs.List.{range_with_len}
use Rattle.std.specs.Vec.{vec_capacity, vec_len}
use Rattle.wfe_drive_cells.specs.Memory.{memory}
use Rattle.wfe_table_end.specs.Contents.{filling_in, filling_of}
use Rattle.wfe_table_end.specs.Room.{IsSpare}
use Rattle.wfe_table_end.proofs.reading.read_buckets.Given as goal

abbrev pub invariant-loop-bucket : goal.invariant-loop-bucket
invariant-loop-bucket l = record {
  read : map filling_of l.buckets.items ≡ map (filling_in (memory l.layout l.words)) (range_with_len 0 l.bucket);
  count : vec_len l.buckets ≡ l.bucket;
  room : l.layout.config.buckets ≤ vec_capacity l.buckets;
  spare : All (IsSpare l.layout) l.spare.items;
  spares : vec_len l.spare + l.bucket ≡ l.layout.config.buckets;
}
