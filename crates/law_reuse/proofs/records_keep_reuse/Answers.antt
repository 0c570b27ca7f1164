use Rattle.law_reuse.proofs.Reuse.Keeps as keeps
use Rattle.law_reuse.proofs.records_keep_reuse.Goals as goal

pub returns : goal.returns
returns c = keeps.records_keep_reuse
