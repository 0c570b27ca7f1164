use Rattle.law_linear.proofs.Rested as rested
use Rattle.law_linear.proofs.reasons_linearize.Goals as goal

pub returns : goal.returns
returns c = rested.reasons_linearize
