-- The seat is the table's.
use Rattle.wfe_table.specs.Public.{IsOf}
use Rattle.wfe_shifts.proofs.worker.Worker.put_all.Given as goal

abbrev pub invariant-loop-turn : goal.invariant-loop-turn
invariant-loop-turn l = IsOf l.self.seat l.shared
