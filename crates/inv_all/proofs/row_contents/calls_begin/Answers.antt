use Rattle.inv_all.proofs.Contents.QueueReads.Turns as kept
use Rattle.inv_all.proofs.row_contents.calls_begin.Goals as goal

pub returns : goal.returns
returns c = kept.first_reads
