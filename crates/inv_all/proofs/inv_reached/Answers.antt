use Rattle.inv_all.proofs.Inv.Reached as reached
use Rattle.inv_all.proofs.inv_reached.Goals as goal

pub returns : goal.returns
returns c = reached.inv_reached
