use Rattle.inv_all.proofs.Contents.Items.Begun as kept
use Rattle.inv_all.proofs.row_contents.items_begin.Goals as goal

pub returns : goal.returns
returns c = kept.items_begin
