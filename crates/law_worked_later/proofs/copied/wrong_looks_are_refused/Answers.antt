use Rattle.law_worked_later.proofs.Copies.Worked.Wrong as wrong
use Rattle.law_worked_later.proofs.copied.wrong_looks_are_refused.Goals as goal

pub returns : goal.returns
returns c = wrong.wrong_looks
