use Rattle.inv_rows.proofs.Covering.Kept.{covers_kept}
use Rattle.inv_rows.proofs.covers.covers_stay.Goals as goal

pub returns : goal.returns
returns c = covers_kept
