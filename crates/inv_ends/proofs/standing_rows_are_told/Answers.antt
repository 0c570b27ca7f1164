use Rattle.inv_ends.proofs.Ends.Copied.{copied_is_told, copy_stands, copied_covered}
use Rattle.inv_ends.proofs.Ends.Held.{held_stands, held_covered, clear_stood}
use Rattle.inv_ends.proofs.Ends.Stood.{held_told, standing_told}
use Rattle.inv_ends.proofs.standing_rows_are_told.Goals as goal

pub returns-clause-held : goal.returns-clause-held
returns-clause-held c = held_told

pub returns-clause-standing : goal.returns-clause-standing
returns-clause-standing c = standing_told

pub returns-clause-stands : goal.returns-clause-stands
returns-clause-stands c = held_stands

pub returns-clause-covered : goal.returns-clause-covered
returns-clause-covered c = held_covered

pub returns-clause-cleared : goal.returns-clause-cleared
returns-clause-cleared c = clear_stood

pub returns-clause-copied : goal.returns-clause-copied
returns-clause-copied c = copied_is_told

pub returns-clause-copies : goal.returns-clause-copies
returns-clause-copies c = copy_stands

pub returns-clause-guards : goal.returns-clause-guards
returns-clause-guards c = copied_covered
