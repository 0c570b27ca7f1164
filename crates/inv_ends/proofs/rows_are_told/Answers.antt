use Rattle.inv_ends.proofs.Told.Rows.{rows_told, rows_were}
use Rattle.inv_ends.proofs.rows_are_told.Goals as goal

pub returns-clause-told : goal.returns-clause-told
returns-clause-told c = rows_told

pub returns-clause-were : goal.returns-clause-were
returns-clause-were c = rows_were
