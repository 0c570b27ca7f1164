use Rattle.law_worked_later.proofs.Leaves.Worked.PassedOn as worked
use Rattle.law_worked_later.proofs.left.a_list_passed_on_is_worked.Goals as goal

pub returns : goal.returns
returns c = worked.passed_on_worked
