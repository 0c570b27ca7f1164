use Rattle.law_bounds.proofs.WrongSteps as wrong
use Rattle.law_bounds.proofs.steps.wrong_steps_are_refused.Goals as goal

pub returns : goal.returns
returns c = wrong.wrong_refused
