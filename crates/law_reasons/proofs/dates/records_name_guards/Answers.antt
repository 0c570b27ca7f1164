use Rattle.law_reasons.proofs.Eras.EraLaw.Guards as guards
use Rattle.law_reasons.proofs.dates.records_name_guards.Goals as goal

pub returns : goal.returns
returns c = guards.records_name_guards
