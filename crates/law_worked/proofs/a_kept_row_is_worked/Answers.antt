use Rattle.law_worked.proofs.Worked.Kept as worked
use Rattle.law_worked.proofs.a_kept_row_is_worked.Goals as goal

pub returns : goal.returns
returns c = worked.kept_worked
