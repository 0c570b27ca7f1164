use Rattle.law_held.proofs.NextRows.Following as following
use Rattle.law_held.proofs.records_follow_nexts.Goals as goal

pub returns : goal.returns
returns c = following.records_follow_nexts
