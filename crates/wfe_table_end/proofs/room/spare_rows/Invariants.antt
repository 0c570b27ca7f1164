-- Each row so far is empty, with its room.
use Rattle.std.proofs.Common.{All, length, ◌≡◌}
use Rattle.wfe_table_end.specs.Room.{IsSpare}
use Rattle.wfe_table_end.proofs.room.spare_rows.Given as goal

abbrev pub invariant-loop-bucket : goal.invariant-loop-bucket
invariant-loop-bucket l = record {
  spare : All (IsSpare l.fn.layout) l.rows.items;
  count : length l.rows.items ≡ l._bucket;
}
