use Rattle.wfe_drive_cells.proofs.Turns.{leaves}
use Rattle.wfe_drive_cells.proofs.Units.{leaves-unit}
use Rattle.wfe_drive_cells.proofs.laws.calls_make_units.Goals as goal

pub returns : goal.returns
returns c = record { leaves = leaves; unit = leaves-unit }
