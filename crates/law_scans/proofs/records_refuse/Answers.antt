use Rattle.law_scans.proofs.Placing.Keeps as keeps
use Rattle.law_scans.proofs.records_refuse.Goals as goal

pub returns : goal.returns
returns c = keeps.records_refuse
