use Rattle.inv_rows.proofs.Covering.Requests.Falling.{needs_of}
use Rattle.inv_rows.proofs.Covering.Requests.Kept.{requests_start, requests_begin, requests_step}
use Rattle.inv_rows.proofs.movers.requests_hold.Goals as goal

pub returns-clause-start : goal.returns-clause-start
returns-clause-start c = requests_start

pub returns-clause-begin : goal.returns-clause-begin
returns-clause-begin c = requests_begin

pub returns-clause-step : goal.returns-clause-step
returns-clause-step c = requests_step

pub returns-clause-needs : goal.returns-clause-needs
returns-clause-needs c = needs_of
