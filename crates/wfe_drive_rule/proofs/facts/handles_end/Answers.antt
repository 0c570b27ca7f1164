use Rattle.wfe_drive_rule.proofs.Ending.{handles_end}
use Rattle.wfe_drive_rule.proofs.facts.handles_end.Goals as goal

pub returns : goal.returns
returns c = handles_end
