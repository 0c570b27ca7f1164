-- The seat is the table's.
use Rattle.wfe_table.specs.Public.{IsOf}
use Rattle.wfe_shifts.proofs.worker.Worker.open.Given as goal

abbrev pub invariant-loop-key : goal.invariant-loop-key
invariant-loop-key l = IsOf l.self.seat l.shared
