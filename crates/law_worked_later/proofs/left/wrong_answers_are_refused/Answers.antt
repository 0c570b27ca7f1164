use Rattle.law_worked_later.proofs.Leaves.Worked.Wrong as wrong
use Rattle.law_worked_later.proofs.left.wrong_answers_are_refused.Goals as goal

pub returns : goal.returns
returns c = wrong.wrong_answers
