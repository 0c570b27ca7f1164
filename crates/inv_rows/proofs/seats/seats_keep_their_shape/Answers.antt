use Rattle.inv_rows.proofs.Shapes.Kept.{seats_start, seats_begin, seats_step}
use Rattle.inv_rows.proofs.seats.seats_keep_their_shape.Goals as goal

pub returns-clause-start : goal.returns-clause-start
returns-clause-start c = seats_start

pub returns-clause-begin : goal.returns-clause-begin
returns-clause-begin c = seats_begin

pub returns-clause-step : goal.returns-clause-step
returns-clause-step c = seats_step
