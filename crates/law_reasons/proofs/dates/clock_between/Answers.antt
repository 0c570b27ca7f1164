use Rattle.law_reasons.proofs.Eras.Current.Positions as positions
use Rattle.law_reasons.proofs.dates.clock_between.Goals as goal

pub returns : goal.returns
returns c = positions.clock_between
