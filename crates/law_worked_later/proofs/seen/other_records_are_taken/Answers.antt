use Rattle.law_worked_later.proofs.Hazards.Worked.Wrong as wrong
use Rattle.law_worked_later.proofs.seen.other_records_are_taken.Goals as goal

pub returns : goal.returns
returns c = wrong.right_edits
