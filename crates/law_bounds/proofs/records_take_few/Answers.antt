use Rattle.law_bounds.proofs.Rows.Lost as bounds
use Rattle.law_bounds.proofs.records_take_few.Goals as goal

pub returns : goal.returns
returns c = bounds.records_take_few
