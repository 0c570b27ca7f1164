use Rattle.law_scans.proofs.Turns.Counting.Counting as counting
use Rattle.law_scans.proofs.tries.protections_count.Goals as goal

pub returns : goal.returns
returns c = counting.protections_count
