use Rattle.inv_ends.proofs.Origins.Kept.{origins_kept, origins_start, origins_begin}
use Rattle.inv_ends.proofs.tracked.origins_hold.Goals as goal

pub returns-clause-start : goal.returns-clause-start
returns-clause-start c = origins_start

pub returns-clause-begin : goal.returns-clause-begin
returns-clause-begin c = origins_begin

pub returns-clause-step : goal.returns-clause-step
returns-clause-step c = origins_kept
