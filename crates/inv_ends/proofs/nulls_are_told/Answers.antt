use Rattle.inv_ends.proofs.Ends.Nulls.{null_told}
use Rattle.inv_ends.proofs.nulls_are_told.Goals as goal

pub returns : goal.returns
returns c = null_told
