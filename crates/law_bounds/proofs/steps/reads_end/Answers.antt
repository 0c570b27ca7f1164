use Rattle.law_bounds.proofs.Gets.Keeps as keeps
use Rattle.law_bounds.proofs.steps.reads_end.Goals as goal

pub returns : goal.returns
returns c = keeps.reads_end
