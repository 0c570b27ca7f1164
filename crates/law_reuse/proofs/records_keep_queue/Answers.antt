use Rattle.law_reuse.proofs.Lawful.Queues as queues
use Rattle.law_reuse.proofs.records_keep_queue.Goals as goal

pub returns : goal.returns
returns c = queues.records_keep_queue
