use Rattle.inv_all.proofs.Inv.Begun as begun
use Rattle.inv_all.proofs.inv_begin.Goals as goal

pub returns : goal.returns
returns c = begun.inv_begin
