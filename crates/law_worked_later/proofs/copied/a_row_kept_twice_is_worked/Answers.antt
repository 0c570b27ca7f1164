use Rattle.law_worked_later.proofs.Copies.Worked.KeptTwice as worked
use Rattle.law_worked_later.proofs.copied.a_row_kept_twice_is_worked.Goals as goal

pub returns : goal.returns
returns c = worked.kept_twice_worked
