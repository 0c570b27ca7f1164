use Rattle.law_worked_later.proofs.Hazards.Worked.PutThenGet as worked
use Rattle.law_worked_later.proofs.seen.a_put_then_a_get_is_worked.Goals as goal

pub returns : goal.returns
returns c = worked.put_then_get_worked
