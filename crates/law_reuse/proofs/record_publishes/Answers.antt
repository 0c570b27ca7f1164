use Rattle.law_reuse.proofs.Holding.Holds as holds
use Rattle.law_reuse.proofs.record_publishes.Goals as goal

pub returns : goal.returns
returns c = holds.record_publishes
