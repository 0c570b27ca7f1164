use Rattle.law_worked.proofs.Worked.Full as worked
use Rattle.law_worked.proofs.a_full_table_is_worked.Goals as goal

pub returns : goal.returns
returns c = worked.full_worked
