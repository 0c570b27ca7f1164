-- Places are taken off the end.
use Rattle.std.proofs.Common.{vec_len, ◌≤◌}
use Rattle.wfe_shared_cells.proofs.left.Objects.next.Given as goal

abbrev pub invariant-loop-place : goal.invariant-loop-place
invariant-loop-place g l = vec_len l.self-inside.places ≤ l.fn.self

abbrev pub decreases-loop-place : goal.decreases-loop-place
decreases-loop-place g l = vec_len l.self-inside.places
