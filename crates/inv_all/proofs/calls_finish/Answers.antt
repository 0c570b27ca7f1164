use Rattle.inv_all.proofs.Finish as finishes
use Rattle.inv_all.proofs.calls_finish.Goals as goal

pub returns : goal.returns
returns c = finishes.calls_finish
