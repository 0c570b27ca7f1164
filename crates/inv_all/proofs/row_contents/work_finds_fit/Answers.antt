use Rattle.inv_all.proofs.Contents.Items.Finds as kept
use Rattle.inv_all.proofs.row_contents.work_finds_fit.Goals as goal

pub returns : goal.returns
returns c = kept.work_finds_fit
