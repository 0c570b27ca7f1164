use Rattle.law_reasons.proofs.Reasons.Keeps as keeps
use Rattle.law_reasons.proofs.records_keep_reasons.Goals as goal

pub returns : goal.returns
returns c = keeps.records_keep_reasons
