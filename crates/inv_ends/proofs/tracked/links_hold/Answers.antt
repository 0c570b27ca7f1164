use Rattle.inv_ends.proofs.Links.Kept.{links_kept, links_begin, links_start}
use Rattle.inv_ends.proofs.tracked.links_hold.Goals as goal

pub returns-clause-start : goal.returns-clause-start
returns-clause-start c = links_start

pub returns-clause-begin : goal.returns-clause-begin
returns-clause-begin c = links_begin

pub returns-clause-step : goal.returns-clause-step
returns-clause-step c = links_kept
