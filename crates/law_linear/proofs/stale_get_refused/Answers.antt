use Rattle.law_linear.proofs.Refused as refused
use Rattle.law_linear.proofs.stale_get_refused.Goals as goal

pub returns : goal.returns
returns c = refused.stale_get_refused
