use Rattle.law_worked.proofs.Worked.Queued as worked
use Rattle.law_worked.proofs.queued_values_are_worked.Goals as goal

pub returns : goal.returns
returns c = worked.queued_worked
