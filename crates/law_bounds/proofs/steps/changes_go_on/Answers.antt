use Rattle.law_bounds.proofs.Changes.Keeps as keeps
use Rattle.law_bounds.proofs.steps.changes_go_on.Goals as goal

pub returns : goal.returns
returns c = keeps.changes_go_on
