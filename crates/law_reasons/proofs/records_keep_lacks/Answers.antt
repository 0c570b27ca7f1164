use Rattle.law_reasons.proofs.Full.Keeps as keeps
use Rattle.law_reasons.proofs.records_keep_lacks.Goals as goal

pub returns : goal.returns
returns c = keeps.records_keep_lacks
