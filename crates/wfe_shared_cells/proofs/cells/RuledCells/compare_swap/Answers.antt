-- Where nothing was laid, nothing was asked of the table.
use Rattle.std.proofs.Common.{Err}
use Rattle.wfe_shared_cells.proofs.Refusals.{not_laid}
use Rattle.wfe_shared_cells.specs.Calls.{IsOffered, next_number}
use Rattle.wfe_cells.specs.table.closed.declared.refusals.PutIfRefusal.{PutIfRefusal}
use Rattle.wfe_shared_cells.proofs.cells.RuledCells.compare_swap.Goals as goal

pub returns-in-Err-clause-refused : goal.returns-in-Err-clause-refused
returns-in-Err-clause-refused g c =
    let old = c.args.part.now in
    let new = c.lay.new.part in
    not_laid old new (λ (refusal : PutIfRefusal). IsOffered c.args.self.now.layout old.user new.user c.args.seen (next_number old) (Err refusal)) c.in-Err.why c.in-Err.ensures.refused
