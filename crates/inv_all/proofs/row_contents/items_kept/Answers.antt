use Rattle.inv_all.proofs.Contents.Items.Kept as kept
use Rattle.inv_all.proofs.row_contents.items_kept.Goals as goal

pub returns : goal.returns
returns c = kept.items_kept
