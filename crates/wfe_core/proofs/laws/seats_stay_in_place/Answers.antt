use Rattle.wfe_core.proofs.CallFrames.{stays_in_place}
use Rattle.wfe_core.proofs.laws.seats_stay_in_place.Goals as goal

pub returns : goal.returns
returns c = stays_in_place
