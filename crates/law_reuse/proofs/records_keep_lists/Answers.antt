use Rattle.law_reuse.proofs.Once.Handed as births
use Rattle.law_reuse.proofs.records_keep_lists.Goals as goal

pub returns : goal.returns
returns c = births.records_keep_lists
