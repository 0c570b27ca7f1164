use Rattle.law_held.proofs.Roots.Following as following
use Rattle.law_held.proofs.records_follow_head.Goals as goal

pub returns : goal.returns
returns c = following.records_follow_head
