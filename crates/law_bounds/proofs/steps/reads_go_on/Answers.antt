use Rattle.law_bounds.proofs.Gets.GoOn as go_on
use Rattle.law_bounds.proofs.steps.reads_go_on.Goals as goal

pub returns : goal.returns
returns c = go_on.reads_go_on
