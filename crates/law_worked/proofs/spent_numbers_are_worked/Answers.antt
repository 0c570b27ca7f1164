use Rattle.law_worked.proofs.Worked.Spent as worked
use Rattle.law_worked.proofs.spent_numbers_are_worked.Goals as goal

pub returns : goal.returns
returns c = worked.spent_worked
