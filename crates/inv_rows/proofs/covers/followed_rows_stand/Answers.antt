use Rattle.inv_rows.proofs.Covering.Following.{parents_start, parents_begin, parents_kept, parents_give}
use Rattle.inv_rows.proofs.covers.followed_rows_stand.Goals as goal

pub returns-clause-start : goal.returns-clause-start
returns-clause-start c = parents_start

pub returns-clause-begin : goal.returns-clause-begin
returns-clause-begin c = parents_begin

pub returns-clause-step : goal.returns-clause-step
returns-clause-step c = parents_kept

pub returns-clause-gives : goal.returns-clause-gives
returns-clause-gives c = parents_give
