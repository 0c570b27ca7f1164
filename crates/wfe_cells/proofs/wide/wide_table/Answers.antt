use Rattle.wfe_cells.proofs.New.{all_new, many_new}
use Rattle.wfe_cells.proofs.wide.wide_table.Goals as goal

pub returns-in-Ok-clause-fresh : goal.returns-in-Ok-clause-fresh
returns-in-Ok-clause-fresh c = all_new c.in-Ok.made.0 c.in-Ok.made.1.items c.in-Ok.ensures.made.1

pub returns-in-Ok-clause-long : goal.returns-in-Ok-clause-long
returns-in-Ok-clause-long c = many_new c.in-Ok.made.0 c.in-Ok.made.1.items c.in-Ok.ensures.made.1
