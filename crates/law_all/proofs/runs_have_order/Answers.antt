use Rattle.law_all.proofs.RunOrder as order
use Rattle.law_all.proofs.runs_have_order.Goals as goal

pub returns : goal.returns
returns c = order.runs_have_order
