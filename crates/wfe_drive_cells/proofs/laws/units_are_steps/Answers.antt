use Rattle.wfe_drive_cells.proofs.Units.{busy-shown, first-start, may_unit, start-begin, unit-step}
use Rattle.wfe_drive_cells.proofs.laws.units_are_steps.Goals as goal

pub returns : goal.returns
returns c = record { start = first-start; busy = busy-shown; begin = start-begin; unit = unit-step; ready = may_unit }
