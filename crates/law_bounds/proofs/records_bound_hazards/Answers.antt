use Rattle.law_bounds.proofs.Hazards.Keeps as hazards
use Rattle.law_bounds.proofs.records_bound_hazards.Goals as goal

pub returns : goal.returns
returns c = hazards.records_bound_hazards
