use Rattle.law_worked_later.proofs.Copies.Worked.Wrong as wrong
use Rattle.law_worked_later.proofs.copied.wrong_versions_are_refused.Goals as goal

pub returns : goal.returns
returns c = wrong.wrong_versions
