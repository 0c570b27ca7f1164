-- The seat stays one of the table.
use Rattle.wfe_table.specs.Public.{IsOf}
use Rattle.wfe_bench.proofs.stalled.caller.Caller.work.Given as goal

abbrev pub invariant-loop-turn : goal.invariant-loop-turn
invariant-loop-turn g l = IsOf l.self.seat l.shared

abbrev pub invariant-loop-round : goal.invariant-loop-round
invariant-loop-round g l = IsOf l.self.seat l.shared
