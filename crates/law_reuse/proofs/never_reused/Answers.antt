use Rattle.law_reuse.proofs.Reuse.Never as never
use Rattle.law_reuse.proofs.never_reused.Goals as goal

pub returns : goal.returns
returns c = never.never_reused
