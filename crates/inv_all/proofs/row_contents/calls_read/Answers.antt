use Rattle.inv_all.proofs.Contents.QueueReads.Turns as kept
use Rattle.inv_all.proofs.row_contents.calls_read.Goals as goal

pub returns : goal.returns
returns c = kept.phase_turns
