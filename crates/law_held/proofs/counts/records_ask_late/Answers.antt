use Rattle.law_held.proofs.Steps.Asking.Owning as owning
use Rattle.law_held.proofs.counts.records_ask_late.Goals as goal

pub returns : goal.returns
returns c = owning.records_ask_late
