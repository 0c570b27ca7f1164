use Rattle.wfe_table.proofs.Leaves.{leave_bounded}
use Rattle.wfe_table.proofs.shared.Shared.set_place.Goals as goal

pub returns-clause-bound : goal.returns-clause-bound
returns-clause-bound c = leave_bounded _ _ c.leave.result _ c.leave.ensures.made
