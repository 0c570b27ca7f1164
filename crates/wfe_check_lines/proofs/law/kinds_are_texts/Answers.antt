use Rattle.wfe_check_lines.proofs.Texts.{kinds_are_texts}
use Rattle.wfe_check_lines.proofs.law.kinds_are_texts.Goals as goal

pub returns : goal.returns
returns c = kinds_are_texts
