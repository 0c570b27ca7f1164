use Rattle.inv_ends.proofs.Handover.Kept.{rows_stay}
use Rattle.inv_ends.proofs.answered_rows_stay.Goals as goal

pub returns : goal.returns
returns c = rows_stay
