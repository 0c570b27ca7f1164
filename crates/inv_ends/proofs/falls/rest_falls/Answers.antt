use Rattle.inv_ends.proofs.Rest.Kept.{rest_falls}
use Rattle.inv_ends.proofs.falls.rest_falls.Goals as goal

pub returns : goal.returns
returns c = rest_falls
