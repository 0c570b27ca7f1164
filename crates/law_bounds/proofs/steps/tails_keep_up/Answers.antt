use Rattle.law_bounds.proofs.Lags.Keeps as keeps
use Rattle.law_bounds.proofs.steps.tails_keep_up.Goals as goal

pub returns : goal.returns
returns c = keeps.tails_keep_up
