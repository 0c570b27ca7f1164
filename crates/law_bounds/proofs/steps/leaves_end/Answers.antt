use Rattle.law_bounds.proofs.Leaves as leaves
use Rattle.law_bounds.proofs.steps.leaves_end.Goals as goal

pub returns : goal.returns
returns c = leaves.leaves_end
