use Rattle.law_bounds.proofs.Whole as bounds
use Rattle.law_bounds.proofs.histories_are_bounded.Goals as goal

pub returns : goal.returns
returns c = bounds.histories_are_bounded
