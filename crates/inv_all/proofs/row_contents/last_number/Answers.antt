use Rattle.inv_all.proofs.Contents.Items.Gives as kept
use Rattle.inv_all.proofs.row_contents.last_number.Goals as goal

pub returns : goal.returns
returns c = kept.last_number
