use Rattle.law_reasons.proofs.Eras.EraLaw.Kinds as kinds
use Rattle.law_reasons.proofs.dates.records_keep_kinds.Goals as goal

pub returns : goal.returns
returns c = kinds.records_keep_kinds
