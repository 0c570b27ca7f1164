use Rattle.law_reuse.proofs.Once.Keeps as keeps
use Rattle.law_reuse.proofs.records_go_back_once.Goals as goal

pub returns : goal.returns
returns c = keeps.records_go_back_once
