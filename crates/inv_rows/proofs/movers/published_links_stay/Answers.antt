use Rattle.inv_rows.proofs.Covering.Requests.Hazards.{hazards_start, hazards_begin, hazards_step}
use Rattle.inv_rows.proofs.movers.published_links_stay.Goals as goal

pub returns-clause-start : goal.returns-clause-start
returns-clause-start c = hazards_start

pub returns-clause-begin : goal.returns-clause-begin
returns-clause-begin c = hazards_begin

pub returns-clause-step : goal.returns-clause-step
returns-clause-step c = hazards_step
