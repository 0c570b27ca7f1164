use Rattle.law_scans.proofs.ClockAnswers.Kept as kept
use Rattle.law_scans.proofs.records_keep_outcomes.Goals as goal

pub returns : goal.returns
returns c = kept.records_keep_outcomes
