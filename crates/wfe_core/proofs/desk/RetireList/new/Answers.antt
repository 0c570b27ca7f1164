use Rattle.std.proofs.Common.{arith}
use Rattle.wfe_core.proofs.Lists.{fits_empty}
use Rattle.wfe_core.proofs.desk.RetireList.new.Goals as goal

pub invariant_of-result : goal.invariant_of-result
invariant_of-result c = rw c.in-Ok.ensures.items (fits_empty _ _ (omega (arith, c.in-Ok.ensures.capacity)))
