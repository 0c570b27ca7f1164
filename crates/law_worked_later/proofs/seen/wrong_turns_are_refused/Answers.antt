use Rattle.law_worked_later.proofs.Hazards.Worked.Wrong as wrong
use Rattle.law_worked_later.proofs.seen.wrong_turns_are_refused.Goals as goal

pub returns : goal.returns
returns c = wrong.wrong_turns
