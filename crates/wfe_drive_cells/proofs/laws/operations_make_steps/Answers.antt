use Rattle.wfe_drive_cells.proofs.Steps.{makes_step}
use Rattle.wfe_drive_cells.proofs.laws.operations_make_steps.Goals as goal

pub returns : goal.returns
returns c = makes_step
