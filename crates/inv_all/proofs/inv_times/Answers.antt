use Rattle.inv_all.proofs.Inv.Tells as tells
use Rattle.inv_all.proofs.inv_times.Goals as goal

pub returns : goal.returns
returns c = tells.inv_times
