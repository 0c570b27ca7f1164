use Rattle.inv_ends.proofs.Rest.Small.{rest_small}
use Rattle.inv_ends.proofs.falls.rest_is_small.Goals as goal

pub returns : goal.returns
returns c = rest_small
