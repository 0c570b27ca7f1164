use Rattle.law_reuse.proofs.Holding.Holds as holds
use Rattle.law_reuse.proofs.records_hold.Goals as goal

pub returns : goal.returns
returns c = holds.records_hold
