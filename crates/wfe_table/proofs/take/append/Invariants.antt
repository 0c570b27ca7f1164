-- So far the first lives are at the end.
use Rattle.std.proofs.Common.{take, ◌++◌, ◌≡◌}
use Rattle.wfe_table.proofs.take.append.Given as goal

abbrev pub invariant-loop-place : goal.invariant-loop-place
invariant-loop-place l = record {
  lives : l.list.lives ≡ l.fn.list.lives ++ take l.place l.fn.other.lives;
  slots : l.list.slots ≡ l.fn.list.slots;
}
