use Rattle.inv_rows.proofs.Covering.Requests.Falling.{moves_on}
use Rattle.inv_rows.proofs.movers.moves_end_in_time.Goals as goal

pub returns : goal.returns
returns c = moves_on
