-- The worker may go on on the table.
use Rattle.wfe_threads.specs.Works.{WorksOn}
use Rattle.wfe_threads.proofs.worker.Worker.count_up.Given as goal

abbrev pub invariant-loop-turn : goal.invariant-loop-turn
invariant-loop-turn l = WorksOn l.self l.shared
