use Rattle.law_worked.proofs.Worked.Helped as worked
use Rattle.law_worked.proofs.a_helped_reader_is_worked.Goals as goal

pub returns : goal.returns
returns c = worked.helped_worked
