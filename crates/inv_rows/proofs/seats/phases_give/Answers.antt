use Rattle.inv_rows.proofs.Shapes.Gives.{gives_guards, gives_clears, gives_walks, gives_births, gives_links}
use Rattle.inv_rows.proofs.seats.phases_give.Goals as goal

pub returns-clause-guards : goal.returns-clause-guards
returns-clause-guards c = gives_guards

pub returns-clause-clears : goal.returns-clause-clears
returns-clause-clears c = gives_clears

pub returns-clause-walks : goal.returns-clause-walks
returns-clause-walks c = gives_walks

pub returns-clause-births : goal.returns-clause-births
returns-clause-births c = gives_births

pub returns-clause-links : goal.returns-clause-links
returns-clause-links c = gives_links
