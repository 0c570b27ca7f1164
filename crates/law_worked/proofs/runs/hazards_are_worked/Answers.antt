use Rattle.law_worked.proofs.RunRecords.Worked as worked
use Rattle.law_worked.proofs.runs.hazards_are_worked.Goals as goal

pub returns : goal.returns
returns c = worked.hazards_worked
