use Rattle.inv_all.proofs.Contents.Contents.Buckets as kept
use Rattle.inv_all.proofs.row_contents.changes_know.Goals as goal

pub returns : goal.returns
returns c = kept.changes_know
