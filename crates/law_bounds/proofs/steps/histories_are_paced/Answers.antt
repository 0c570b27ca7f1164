use Rattle.law_bounds.proofs.Paces as paces
use Rattle.law_bounds.proofs.steps.histories_are_paced.Goals as goal

pub returns : goal.returns
returns c = paces.histories_are_paced
