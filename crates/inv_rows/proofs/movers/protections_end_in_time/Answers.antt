use Rattle.inv_rows.proofs.Covering.Requests.Paced.{paces_start, paces_begin, paces_step, in_time}
use Rattle.inv_rows.proofs.movers.protections_end_in_time.Goals as goal

pub returns-clause-start : goal.returns-clause-start
returns-clause-start c = paces_start

pub returns-clause-begin : goal.returns-clause-begin
returns-clause-begin c = paces_begin

pub returns-clause-step : goal.returns-clause-step
returns-clause-step c = paces_step

pub returns-clause-in_time : goal.returns-clause-in_time
returns-clause-in_time c = in_time
