use Rattle.law_worked_later.proofs.Copies.Worked.AtVersion as worked
use Rattle.law_worked_later.proofs.copied.puts_at_a_version_are_worked.Goals as goal

pub returns : goal.returns
returns c = worked.at_version_worked
