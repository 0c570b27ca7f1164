use Rattle.law_held.proofs.Steps.Raises.Raised as raised
use Rattle.law_held.proofs.counts.records_keep_raises.Goals as goal

pub returns : goal.returns
returns c = raised.records_keep_raises
