use Rattle.law_worked_later.proofs.Hazards.Worked.Crowded as worked
use Rattle.law_worked_later.proofs.seen.a_full_table_is_taken.Goals as goal

pub returns : goal.returns
returns c = worked.crowded_taken
