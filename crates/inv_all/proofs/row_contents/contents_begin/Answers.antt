use Rattle.inv_all.proofs.Contents.Contents.Begun as kept
use Rattle.inv_all.proofs.row_contents.contents_begin.Goals as goal

pub returns : goal.returns
returns c = kept.contents_begin
