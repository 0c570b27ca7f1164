-- The items so far, and those after the row reached, are those after the head.
use Rattle.std.proofs.Common.{◌++◌, ◌-◌, ◌<◌, ◌≡◌, ◌≤◌}
use Rattle.std.specs.Vec.{vec_capacity, vec_len}
use Rattle.wfe_core.specs.words.Place.Place.{Head}
use Rattle.wfe_core.specs.words.Place.{row_count}
use Rattle.wfe_drive_cells.specs.Memory.{memory}
use Rattle.wfe_table_end.specs.Contents.{items_after}
use Rattle.wfe_table_end.proofs.reading.read_queue.Given as goal

abbrev pub invariant-loop-turn : goal.invariant-loop-turn
invariant-loop-turn l = record {
  read : l.queue.items ++ items_after (memory l.layout l.words) (row_count l.layout - l._turn) l.slot ≡ items_after (memory l.layout l.words) (row_count l.layout) (memory l.layout l.words Head - 1);
  slot : l.slot < row_count l.layout;
  count : vec_len l.queue ≡ l._turn;
  room : row_count l.layout ≤ vec_capacity l.queue;
}
