use Rattle.law_reasons.proofs.Repeats.Keeps as keeps
use Rattle.law_reasons.proofs.records_keep_repeats.Goals as goal

pub returns : goal.returns
returns c = keeps.records_keep_repeats
