use Rattle.inv_rows.proofs.Covering.Begun.{standing_stays}
use Rattle.inv_rows.proofs.covers.standing_rows_stay.Goals as goal

pub returns : goal.returns
returns c = standing_stays
