use Rattle.law_reuse.proofs.Lawful.Counts as counts
use Rattle.law_reuse.proofs.records_keep_steps.Goals as goal

pub returns : goal.returns
returns c = counts.records_keep_steps
