use Rattle.inv_ends.proofs.Links.Given.{links_give}
use Rattle.inv_ends.proofs.tracked.links_give.Goals as goal

pub returns : goal.returns
returns c = links_give
