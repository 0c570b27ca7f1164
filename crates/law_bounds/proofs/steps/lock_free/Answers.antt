use Rattle.law_bounds.proofs.Free.Whole as whole
use Rattle.law_bounds.proofs.steps.lock_free.Goals as goal

pub returns : goal.returns
returns c = whole.lock_free
