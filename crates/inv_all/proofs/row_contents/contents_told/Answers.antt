use Rattle.inv_all.proofs.Contents.Contents.Kept as kept
use Rattle.inv_all.proofs.row_contents.contents_told.Goals as goal

pub returns : goal.returns
returns c = kept.contents_told
