use Rattle.law_scans.proofs.Turns.Counting.Bounded as bounded
use Rattle.law_scans.proofs.tries.protections_end.Goals as goal

pub returns : goal.returns
returns c = bounded.protections_end
