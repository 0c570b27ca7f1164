use Rattle.inv_rows.proofs.Facts as facts
use Rattle.inv_rows.proofs.rows_show.Goals as goal

pub returns : goal.returns
returns c = facts.rows_show
