use Rattle.law_scans.proofs.Placing.Keeps as keeps
use Rattle.law_scans.proofs.records_count_retires.Goals as goal

pub returns : goal.returns
returns c = keeps.records_count_retires
