use Rattle.inv_all.proofs.Inv.Reached as reached
use Rattle.inv_all.proofs.reached_ready.Goals as goal

pub returns : goal.returns
returns c = reached.reached_ready
