use Rattle.inv_all.proofs.Inv.Kept as kept
use Rattle.inv_all.proofs.inv_kept.Goals as goal

pub returns : goal.returns
returns c = kept.inv_kept
