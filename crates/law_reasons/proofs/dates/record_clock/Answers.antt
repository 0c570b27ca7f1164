use Rattle.law_reasons.proofs.Eras.EraLaw.Keeps as keeps
use Rattle.law_reasons.proofs.dates.record_clock.Goals as goal

pub returns : goal.returns
returns c = keeps.record_clock
