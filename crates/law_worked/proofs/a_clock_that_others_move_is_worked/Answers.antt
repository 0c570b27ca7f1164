use Rattle.law_worked.proofs.Worked.Moved as worked
use Rattle.law_worked.proofs.a_clock_that_others_move_is_worked.Goals as goal

pub returns : goal.returns
returns c = worked.moved_worked
