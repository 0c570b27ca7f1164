use Rattle.inv_ends.proofs.Origins.Came.{tracked_came}
use Rattle.inv_ends.proofs.tracked.tracked_links_came.Goals as goal

pub returns : goal.returns
returns c = tracked_came
