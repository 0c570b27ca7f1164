use Rattle.law_reuse.proofs.OneStep.OneStep as one
use Rattle.law_reuse.proofs.turns_tell_one.Goals as goal

pub returns : goal.returns
returns c = one.turns_tell_one
