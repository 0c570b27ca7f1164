use Rattle.law_reasons.proofs.Eras.EraLaw.Advances as advances
use Rattle.law_reasons.proofs.dates.records_advance.Goals as goal

pub returns : goal.returns
returns c = advances.records_advance
