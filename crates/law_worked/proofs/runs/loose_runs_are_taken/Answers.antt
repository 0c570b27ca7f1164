use Rattle.law_worked.proofs.RunRecords.Worked as worked
use Rattle.law_worked.proofs.runs.loose_runs_are_taken.Goals as goal

pub returns : goal.returns
returns c = worked.loose_taken
