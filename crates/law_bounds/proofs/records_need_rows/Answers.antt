use Rattle.law_bounds.proofs.Hazards.Needed as bounds
use Rattle.law_bounds.proofs.records_need_rows.Goals as goal

pub returns : goal.returns
returns c = bounds.records_need_rows
