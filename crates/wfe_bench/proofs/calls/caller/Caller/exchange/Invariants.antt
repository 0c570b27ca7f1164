-- The seat stays one of the table.
use Rattle.wfe_table.specs.Public.{IsOf}
use Rattle.wfe_bench.proofs.calls.caller.Caller.exchange.Given as goal

abbrev pub invariant-loop-turn : goal.invariant-loop-turn
invariant-loop-turn l = IsOf l.self.seat l.shared
