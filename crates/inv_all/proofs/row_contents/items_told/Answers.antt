use Rattle.inv_all.proofs.Contents.Items.Gives as kept
use Rattle.inv_all.proofs.row_contents.items_told.Goals as goal

pub returns : goal.returns
returns c = kept.items_told
