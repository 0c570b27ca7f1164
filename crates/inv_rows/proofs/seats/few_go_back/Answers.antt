use Rattle.inv_rows.proofs.Shapes.Quiet.{noted_start, noted_begin, noted_step}
use Rattle.inv_rows.proofs.seats.few_go_back.Goals as goal

pub returns-clause-start : goal.returns-clause-start
returns-clause-start c = noted_start

pub returns-clause-begin : goal.returns-clause-begin
returns-clause-begin c = noted_begin

pub returns-clause-step : goal.returns-clause-step
returns-clause-step c = noted_step
