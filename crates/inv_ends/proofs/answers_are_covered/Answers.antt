use Rattle.inv_ends.proofs.Handover.Begun.{handover_start, handover_begin}
use Rattle.inv_ends.proofs.Handover.Kept.{handover_kept}
use Rattle.inv_ends.proofs.answers_are_covered.Goals as goal

pub returns-clause-start : goal.returns-clause-start
returns-clause-start c = handover_start

pub returns-clause-begin : goal.returns-clause-begin
returns-clause-begin c = handover_begin

pub returns-clause-step : goal.returns-clause-step
returns-clause-step c = handover_kept
