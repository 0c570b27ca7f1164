use Rattle.law_worked.proofs.Worked.Intervals as worked
use Rattle.law_worked.proofs.a_raised_interval_is_worked.Goals as goal

pub returns : goal.returns
returns c = worked.intervals_worked
