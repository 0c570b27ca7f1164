use Rattle.inv_all.proofs.Outcomes.Ended as ended
use Rattle.inv_all.proofs.machines_end.Goals as goal

pub returns : goal.returns
returns c = ended.machines_end
