-- The seat is the table's at each turn.
use Rattle.wfe_table.specs.Public.{IsOf}
use Rattle.wfe_first.proofs.count_up.Given as goal

abbrev pub invariant-loop-turn : goal.invariant-loop-turn
invariant-loop-turn l = IsOf l.seat l.shared
