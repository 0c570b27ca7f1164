use Rattle.inv_rows.proofs.Shapes.SlotKept.{slots_start, slots_begin, slots_step}
use Rattle.inv_rows.proofs.seats.links_stay_within.Goals as goal

pub returns-clause-start : goal.returns-clause-start
returns-clause-start c = slots_start

pub returns-clause-begin : goal.returns-clause-begin
returns-clause-begin c = slots_begin

pub returns-clause-step : goal.returns-clause-step
returns-clause-step c = slots_step
