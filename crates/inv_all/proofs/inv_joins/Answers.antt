use Rattle.inv_all.proofs.Inv.Joins as joins
use Rattle.inv_all.proofs.inv_joins.Goals as goal

pub returns-clause-keeps : goal.returns-clause-keeps
returns-clause-keeps c = joins.inv_joins

pub returns-clause-fits : goal.returns-clause-fits
returns-clause-fits c = joins.joins_fit

pub returns-clause-adds : goal.returns-clause-adds
returns-clause-adds c = joins.listing_adds
