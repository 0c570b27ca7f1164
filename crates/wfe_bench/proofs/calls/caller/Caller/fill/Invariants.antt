-- The seat stays one of the table.
use Rattle.wfe_table.specs.Public.{IsOf}
use Rattle.wfe_bench.proofs.calls.caller.Caller.fill.Given as goal

abbrev pub invariant-loop-key : goal.invariant-loop-key
invariant-loop-key l = IsOf l.self.seat l.shared
