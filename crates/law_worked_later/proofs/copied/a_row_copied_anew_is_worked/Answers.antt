use Rattle.law_worked_later.proofs.Copies.Worked.CopiedAnew as worked
use Rattle.law_worked_later.proofs.copied.a_row_copied_anew_is_worked.Goals as goal

pub returns : goal.returns
returns c = worked.copied_anew_worked
