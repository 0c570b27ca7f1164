use Rattle.law_held.proofs.Steps.Asking.Helping as helping
use Rattle.law_held.proofs.counts.records_keep_helpers.Goals as goal

pub returns : goal.returns
returns c = helping.records_keep_helpers
