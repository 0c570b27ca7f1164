use Rattle.law_scans.proofs.Placing.Keeps as placing
use Rattle.law_scans.proofs.records_retire_one.Goals as goal

pub returns : goal.returns
returns c = placing.records_retire_one
