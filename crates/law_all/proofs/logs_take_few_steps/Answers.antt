use Rattle.law_all.proofs.Steps as steps
use Rattle.law_all.proofs.logs_take_few_steps.Goals as goal

pub returns : goal.returns
returns c = steps.logs_take_few_steps
