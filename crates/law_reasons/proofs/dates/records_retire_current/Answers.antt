use Rattle.law_reasons.proofs.Eras.Current.Keeps as keeps
use Rattle.law_reasons.proofs.dates.records_retire_current.Goals as goal

pub returns : goal.returns
returns c = keeps.records_retire_current
