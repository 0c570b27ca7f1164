use Rattle.law_bounds.proofs.Scans.Keeps as bounds
use Rattle.law_bounds.proofs.good_records_leave_few.Goals as goal

pub returns : goal.returns
returns c = bounds.good_leaves
