use Rattle.law_worked_later.proofs.Leaves.Worked.HandedOver as worked
use Rattle.law_worked_later.proofs.left.a_list_handed_over_is_worked.Goals as goal

pub returns : goal.returns
returns c = worked.handed_over_worked
