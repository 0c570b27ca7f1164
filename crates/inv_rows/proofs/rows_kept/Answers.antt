use Rattle.inv_rows.proofs.Kept as kept
use Rattle.inv_rows.proofs.rows_kept.Goals as goal

pub returns : goal.returns
returns c = kept.rows_kept
