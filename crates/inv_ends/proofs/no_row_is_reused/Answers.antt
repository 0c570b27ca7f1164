use Rattle.inv_ends.proofs.Told.Rows.{no_reuse}
use Rattle.inv_ends.proofs.no_row_is_reused.Goals as goal

pub returns : goal.returns
returns c = no_reuse
