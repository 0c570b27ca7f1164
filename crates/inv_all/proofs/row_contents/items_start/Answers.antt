use Rattle.inv_all.proofs.Contents.Items.Begun as kept
use Rattle.inv_all.proofs.row_contents.items_start.Goals as goal

pub returns : goal.returns
returns c = kept.items_start
