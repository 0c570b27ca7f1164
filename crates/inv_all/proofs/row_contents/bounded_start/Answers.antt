use Rattle.inv_all.proofs.Contents.Items.Bounds as kept
use Rattle.inv_all.proofs.row_contents.bounded_start.Goals as goal

pub returns : goal.returns
returns c = kept.bounded_start
