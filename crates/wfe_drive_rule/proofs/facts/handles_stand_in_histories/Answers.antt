use Rattle.wfe_drive_rule.proofs.Standing.{handles_stand, steps_tell}
use Rattle.wfe_drive_rule.proofs.facts.handles_stand_in_histories.Goals as goal

pub returns : goal.returns
returns c = record { stand = handles_stand; tell = steps_tell }
