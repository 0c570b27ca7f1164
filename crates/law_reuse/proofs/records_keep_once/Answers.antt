use Rattle.law_reuse.proofs.Once.Keeps as keeps
use Rattle.law_reuse.proofs.records_keep_once.Goals as goal

pub returns : goal.returns
returns c = keeps.records_keep_once
