use Rattle.law_bounds.proofs.Rows.Lost as lost
use Rattle.law_bounds.proofs.records_lose_none.Goals as goal

pub returns : goal.returns
returns c = lost.records_lose_none
