use Rattle.law_reasons.proofs.Eras.Current.Keeps as keeps
use Rattle.law_reasons.proofs.dates.records_give_current.Goals as goal

pub returns : goal.returns
returns c = keeps.records_give_current
