use Rattle.std.proofs.Common.{◌∙◌}
use Rattle.wfe_core.specs.Calls.{Changes}
use Rattle.wfe_core.specs.DeskHeld.{desk_of}
use Rattle.wfe_bucketmap.proofs.change.leave_on.Goals as goal

pub returns-clause-turn : goal.returns-clause-turn
returns-clause-turn g c = λ kept. c.take_leave.ensures.turn (Changes kept) ∙ c.left.ensures.turn kept c.take_leave.new.post (desk_of c.take_leave.new.desk) c.take_leave.new.told _
