use Rattle.law_bounds.proofs.Rows.Closed as bounds
use Rattle.law_bounds.proofs.closes_lose_none.Goals as goal

pub returns : goal.returns
returns c = bounds.closes_lose_none
