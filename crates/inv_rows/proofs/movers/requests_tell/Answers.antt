use Rattle.inv_rows.proofs.Covering.Requests.Known.{known}
use Rattle.inv_rows.proofs.movers.requests_tell.Goals as goal

pub returns : goal.returns
returns c = known
