use Rattle.inv_rows.proofs.Covering.Requests.Pending.{pending}
use Rattle.inv_rows.proofs.movers.pending_requests_hold_the_clock.Goals as goal

pub returns : goal.returns
returns c = pending
