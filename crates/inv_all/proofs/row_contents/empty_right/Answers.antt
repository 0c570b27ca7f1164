use Rattle.inv_all.proofs.Contents.Items.Gives as kept
use Rattle.inv_all.proofs.row_contents.empty_right.Goals as goal

pub returns : goal.returns
returns c = kept.empty_right
