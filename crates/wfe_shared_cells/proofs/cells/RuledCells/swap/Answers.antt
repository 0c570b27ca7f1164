-- Where nothing was laid, nothing was asked of the table.
use Rattle.wfe_shared_cells.proofs.Refusals.{not_laid}
use Rattle.wfe_shared_cells.specs.Calls.{IsNotSwappedIn, next_number}
use Rattle.wfe_shared_cells.proofs.cells.RuledCells.swap.Goals as goal

pub returns-in-Err-clause-refused : goal.returns-in-Err-clause-refused
returns-in-Err-clause-refused g c =
    let old = c.args.part.now in
    let new = c.lay.new.part in
    not_laid old new (IsNotSwappedIn c.args.self.now.layout c.args.cell old.user new.user (next_number old)) c.in-Err.why c.in-Err.ensures.refused
