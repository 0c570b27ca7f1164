-- The part is the table's at each turn.
use Rattle.wfe_shared_cells.specs.cells.table.Public.{IsOf}
use Rattle.wfe_shared_uses.proofs.dropped.replace_all.Given as goal

abbrev pub invariant-loop-turn : goal.invariant-loop-turn
invariant-loop-turn l = IsOf l.user.part.user.seat l.cells
