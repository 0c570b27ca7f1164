-- The workers that are left may go on on the table, and the seats that came back are of it.
use Rattle.std.proofs.Common.{All, vec_len}
use Rattle.wfe_table.specs.Public.{IsOf}
use Rattle.wfe_threads.specs.Works.{WorksOn}
use Rattle.wfe_threads.proofs.hand_back.Given as goal

abbrev pub invariant-loop-worker : goal.invariant-loop-worker
invariant-loop-worker l = record {
  left : All (λ worker. WorksOn worker l.shared) l.workers.items;
  back : All (λ seat. IsOf seat l.shared) l.seats.items;
}

abbrev pub decreases-loop-worker : goal.decreases-loop-worker
decreases-loop-worker l = vec_len l.workers
