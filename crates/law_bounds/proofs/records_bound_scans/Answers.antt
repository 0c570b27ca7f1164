use Rattle.law_bounds.proofs.Scans.Keeps as scans
use Rattle.law_bounds.proofs.records_bound_scans.Goals as goal

pub returns : goal.returns
returns c = scans.records_bound_scans
