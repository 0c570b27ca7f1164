use Rattle.inv_rows.proofs.Covering.Requests.Parents.{parents_start, parents_begin, parents_step}
use Rattle.inv_rows.proofs.movers.parents_stand.Goals as goal

pub returns-clause-start : goal.returns-clause-start
returns-clause-start c = parents_start

pub returns-clause-begin : goal.returns-clause-begin
returns-clause-begin c = parents_begin

pub returns-clause-step : goal.returns-clause-step
returns-clause-step c = parents_step
