use Rattle.inv_all.proofs.Contents.Contents.Buckets as kept
use Rattle.inv_all.proofs.row_contents.buckets_show.Goals as goal

pub returns : goal.returns
returns c = kept.buckets_show
