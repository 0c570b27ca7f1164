use Rattle.law_worked_later.proofs.Hazards.Worked.Seen as worked
use Rattle.law_worked_later.proofs.seen.a_row_that_scans_see_is_worked.Goals as goal

pub returns : goal.returns
returns c = worked.seen_worked
