use Rattle.law_held.proofs.Held.Throughout as throughout
use Rattle.law_held.proofs.records_hold_throughout.Goals as goal

pub returns : goal.returns
returns c = throughout.records_hold_throughout
