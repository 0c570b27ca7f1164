use Rattle.law_worked_later.proofs.Copies.Worked.Copied as worked
use Rattle.law_worked_later.proofs.copied.a_copied_row_is_worked.Goals as goal

pub returns : goal.returns
returns c = worked.copied_worked
