use Rattle.law_bounds.proofs.Eras.Keeps as eras
use Rattle.law_bounds.proofs.records_bound_still.Goals as goal

pub returns : goal.returns
returns c = eras.records_bound_still
