use Rattle.wfe_drive_words.proofs.Groups.{left_by}
use Rattle.wfe_drive_words.proofs.facts.answers_leave_groups.Goals as goal

pub returns : goal.returns
returns c = left_by
