use Rattle.law_bounds.proofs.Free.Idle as idle
use Rattle.law_bounds.proofs.steps.histories_get_on.Goals as goal

pub returns : goal.returns
returns c = idle.get_on
