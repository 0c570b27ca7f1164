use Rattle.law_all.proofs.Logs.Notes as notes
use Rattle.law_all.proofs.answered.turns_leave_notes.Goals as goal

pub returns : goal.returns
returns c = notes.turns_leave_notes
