-- The seat is the table's at each turn.
use Rattle.wfe_table.specs.Public.{IsOf}
use Rattle.wfe_uses.proofs.handover.put_more.Given as goal

abbrev pub invariant-loop-value : goal.invariant-loop-value
invariant-loop-value l = IsOf l.seat l.shared
