use Rattle.inv_ends.proofs.Rest.Lasting.{losses_start, losses_begin, losses_kept}
use Rattle.inv_ends.proofs.falls.rounds_are_few.Goals as goal

pub returns-clause-start : goal.returns-clause-start
returns-clause-start c = losses_start

pub returns-clause-begin : goal.returns-clause-begin
returns-clause-begin c = losses_begin

pub returns-clause-step : goal.returns-clause-step
returns-clause-step c = losses_kept
