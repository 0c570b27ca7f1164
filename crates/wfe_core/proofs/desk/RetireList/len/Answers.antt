use Rattle.std.proofs.Common.{arith}
use Rattle.std.proofs.lemmas.Grind.{common_steps}
use Rattle.wfe_core.proofs.Lists.{fits_length}
use Rattle.wfe_core.proofs.desk.RetireList.len.Goals as goal

pub returns-clause-most : goal.returns-clause-most
returns-clause-most c = let h = fits_length _ _ _ c.self.invariant in rw (← c.self.view_is) (grind (arith, common_steps, h, c.len.ensures))
