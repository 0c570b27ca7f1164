use Rattle.inv_all.proofs.Contents.Stands.Kept as kept
use Rattle.inv_all.proofs.row_contents.stands_kept.Goals as goal

pub returns : goal.returns
returns c = kept.stands_kept
