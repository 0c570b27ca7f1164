use Rattle.law_held.proofs.Resting.Resting as resting
use Rattle.law_held.proofs.records_rest_guards.Goals as goal

pub returns : goal.returns
returns c = resting.records_rest_guards
