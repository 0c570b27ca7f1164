-- Tables of seats that stay.
use Rattle.wfe_drive.proofs.Reached.{first_reached, start_reached, unit_falls, unit_reached}
use Rattle.wfe_drive.proofs.worlds.tables_stay.Goals as goal

pub returns-clause-start : goal.returns-clause-start
returns-clause-start c = first_reached

pub returns-clause-begin : goal.returns-clause-begin
returns-clause-begin c = start_reached

pub returns-clause-unit : goal.returns-clause-unit
returns-clause-unit c = unit_reached

pub returns-clause-falls : goal.returns-clause-falls
returns-clause-falls c = unit_falls
