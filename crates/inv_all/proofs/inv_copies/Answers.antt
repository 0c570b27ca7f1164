use Rattle.inv_all.proofs.Inv.Tells.{inv_copies}
use Rattle.inv_all.proofs.inv_copies.Goals as goal

pub returns : goal.returns
returns c = inv_copies
