use Rattle.law_bounds.proofs.Changes.Keeps as keeps
use Rattle.law_bounds.proofs.steps.changes_end.Goals as goal

pub returns : goal.returns
returns c = keeps.changes_end
