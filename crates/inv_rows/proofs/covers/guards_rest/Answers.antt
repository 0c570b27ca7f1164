use Rattle.inv_rows.proofs.Covering.Resting.{rests_start, rests_begin, rests_kept, rests_give, spans_rest}
use Rattle.inv_rows.proofs.covers.guards_rest.Goals as goal

pub returns-clause-start : goal.returns-clause-start
returns-clause-start c = rests_start

pub returns-clause-begin : goal.returns-clause-begin
returns-clause-begin c = rests_begin

pub returns-clause-step : goal.returns-clause-step
returns-clause-step c = rests_kept

pub returns-clause-gives : goal.returns-clause-gives
returns-clause-gives c = rests_give

pub returns-clause-spans : goal.returns-clause-spans
returns-clause-spans c = spans_rest
