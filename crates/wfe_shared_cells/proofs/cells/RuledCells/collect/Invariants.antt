-- Of what may be dropped there is less each time; all else stays.
use Rattle.std.proofs.Common.{length, ◌≡◌, ◌≤◌}
use Rattle.wfe_shared_cells.proofs.cells.RuledCells.collect.Given as goal

abbrev pub invariant-loop-word : goal.invariant-loop-word
invariant-loop-word g l = record {
  seat : l.user.seat ≡ l.fn.user.seat;
  kept : l.user.store.kept ≡ l.fn.user.store.kept;
  room : l.fn.user.store.spare ≤ l.user.store.spare;
}

abbrev pub decreases-loop-word : goal.decreases-loop-word
decreases-loop-word g l = length l.user.store.free
