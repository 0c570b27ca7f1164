use Rattle.wfe_drive_rule.proofs.Ending.{shared_rule}
use Rattle.wfe_drive_rule.proofs.facts.tables_follow_histories.Goals as goal

pub returns : goal.returns
returns c = shared_rule
