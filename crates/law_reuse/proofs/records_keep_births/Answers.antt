use Rattle.law_reuse.proofs.Once.Births as births
use Rattle.law_reuse.proofs.records_keep_births.Goals as goal

pub returns : goal.returns
returns c = births.records_keep_births
