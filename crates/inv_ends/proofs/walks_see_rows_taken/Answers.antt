use Rattle.inv_ends.proofs.Walks.Kept.{walking_start, walking_begin, walking_kept, full_seen}
use Rattle.inv_ends.proofs.walks_see_rows_taken.Goals as goal

pub returns-clause-start : goal.returns-clause-start
returns-clause-start c = walking_start

pub returns-clause-begin : goal.returns-clause-begin
returns-clause-begin c = walking_begin

pub returns-clause-step : goal.returns-clause-step
returns-clause-step c = walking_kept

pub returns-clause-full : goal.returns-clause-full
returns-clause-full c = full_seen
