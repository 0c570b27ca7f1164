-- The seats that are left are of the table, and the workers so far may make calls on it.
use Rattle.std.proofs.Common.{All, vec_len}
use Rattle.wfe_table.specs.Public.{IsOf}
use Rattle.wfe_threads.specs.Works.{WorksOn}
use Rattle.wfe_threads.proofs.hire.Given as goal

abbrev pub invariant-loop-seat : goal.invariant-loop-seat
invariant-loop-seat l = record {
  left : All (λ seat. IsOf seat l.shared) l.seats.items;
  works : All (λ worker. WorksOn worker l.shared) l.workers.items;
}

abbrev pub decreases-loop-seat : goal.decreases-loop-seat
decreases-loop-seat l = vec_len l.seats
