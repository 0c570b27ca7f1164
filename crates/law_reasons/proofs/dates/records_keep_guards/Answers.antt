use Rattle.law_reasons.proofs.Eras.EraLaw.Keeps as keeps
use Rattle.law_reasons.proofs.dates.records_keep_guards.Goals as goal

pub returns : goal.returns
returns c = keeps.records_keep_guards
