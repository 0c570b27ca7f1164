use Rattle.inv_all.proofs.Inv.Ends as ends
use Rattle.inv_all.proofs.inv_ends.Goals as goal

pub returns : goal.returns
returns c = ends.inv_ends
