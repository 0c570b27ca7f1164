-- The part is the table's at each turn.
use Rattle.wfe_shared_cells.specs.cells.table.Public.{IsOf}
use Rattle.wfe_shared_uses.proofs.records.work.Given as goal

abbrev pub invariant-loop-number : goal.invariant-loop-number
invariant-loop-number l = IsOf l.user.part.user.seat l.cells
