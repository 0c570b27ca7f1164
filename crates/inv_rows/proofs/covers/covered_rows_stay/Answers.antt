use Rattle.inv_rows.proofs.Covering.Kept.{not_reused}
use Rattle.inv_rows.proofs.covers.covered_rows_stay.Goals as goal

pub returns : goal.returns
returns c = not_reused
