use Rattle.inv_rows.proofs.Queued as queued
use Rattle.inv_rows.proofs.queue_start.Goals as goal

pub returns : goal.returns
returns c = queued.queue_start
