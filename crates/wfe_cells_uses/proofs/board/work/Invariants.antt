-- The writer is the cells' at each turn.
use Rattle.wfe_table.specs.Public.{IsOf}
use Rattle.wfe_cells_uses.proofs.board.work.Given as goal

abbrev pub invariant-loop-number : goal.invariant-loop-number
invariant-loop-number l = IsOf l.writer.user.seat l.cells.table
