use Rattle.inv_ends.proofs.Rest.Small.{rest_stays}
use Rattle.inv_ends.proofs.falls.rest_stays.Goals as goal

pub returns : goal.returns
returns c = rest_stays
