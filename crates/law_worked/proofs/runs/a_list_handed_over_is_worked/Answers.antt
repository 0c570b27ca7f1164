use Rattle.law_worked.proofs.RunRecords.Worked as worked
use Rattle.law_worked.proofs.runs.a_list_handed_over_is_worked.Goals as goal

pub returns : goal.returns
returns c = worked.handed_worked
