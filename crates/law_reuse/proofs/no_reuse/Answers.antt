use Rattle.law_reuse.proofs.Reuse.Never as never
use Rattle.law_reuse.proofs.no_reuse.Goals as goal

pub returns : goal.returns
returns c = never.no_reuse
