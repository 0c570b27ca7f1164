use Rattle.law_worked.proofs.Worked.Wrong as wrong
use Rattle.law_worked.proofs.other_records_are_taken.Goals as goal

pub returns : goal.returns
returns c = wrong.right_edits
