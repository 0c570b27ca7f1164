use Rattle.law_scans.proofs.Placing.Keeps as keeps
use Rattle.law_scans.proofs.records_retire_cuts.Goals as goal

pub returns : goal.returns
returns c = keeps.records_retire_cuts
