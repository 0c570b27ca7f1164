use Rattle.law_worked_later.proofs.Hazards.Worked.Followed as worked
use Rattle.law_worked_later.proofs.seen.a_copied_row_is_taken.Goals as goal

pub returns : goal.returns
returns c = worked.followed_taken
