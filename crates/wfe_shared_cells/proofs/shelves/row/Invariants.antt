-- So many places are there.
use Rattle.std.proofs.Common.{vec_len, ◌≡◌}
use Rattle.wfe_shared_cells.proofs.shelves.row.Given as goal

abbrev pub invariant-loop-place : goal.invariant-loop-place
invariant-loop-place g l = vec_len l.row ≡ l._place
