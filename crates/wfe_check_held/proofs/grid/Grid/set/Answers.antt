use Rattle.wfe_check_held.proofs.Grids.{cell-set}
use Rattle.wfe_check_held.proofs.grid.Grid.set.Goals as goal

pub returns-clause-cells : goal.returns-clause-cells
returns-clause-cells c = λ l q h. cell-set c.args.self.now.cells.items c.args.self.now.width l q c.args.line c.args.place c.args.number h c.requires.place c.requires.inside
