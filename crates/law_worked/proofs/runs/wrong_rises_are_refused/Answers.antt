use Rattle.law_worked.proofs.RunRecords.Wrong as wrong
use Rattle.law_worked.proofs.runs.wrong_rises_are_refused.Goals as goal

pub returns : goal.returns
returns c = wrong.wrong_rises_refused
