use Rattle.inv_rows.proofs.Facts as facts
use Rattle.inv_rows.proofs.queue_ends.Goals as goal

pub returns : goal.returns
returns c = facts.queue_ends
