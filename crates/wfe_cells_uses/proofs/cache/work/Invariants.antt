-- The reader is the cells' at each turn.
use Rattle.wfe_table.specs.Public.{IsOf}
use Rattle.wfe_cells_uses.proofs.cache.work.Given as goal

abbrev pub invariant-loop-turn : goal.invariant-loop-turn
invariant-loop-turn l = IsOf l.reader.user.seat l.cells
