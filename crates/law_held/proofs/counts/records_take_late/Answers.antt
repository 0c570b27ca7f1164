use Rattle.law_held.proofs.Steps.Asking.Kept as kept
use Rattle.law_held.proofs.counts.records_take_late.Goals as goal

pub returns : goal.returns
returns c = kept.records_take_late
