-- In the attempts so far another thread came between.
use Rattle.wfe_table.specs.Public.{IsOf}
use Rattle.wfe_cells.specs.Calls.{AllStale}
use Rattle.wfe_cells.proofs.cells.Cells.swap.Given as goal

abbrev pub invariant-loop-attempt : goal.invariant-loop-attempt
invariant-loop-attempt l = record {
  of : IsOf l.user.seat l.self;
  stale : AllStale l.self.layout l.cell l.object l.fn.user l._attempt l.user;
}
