use Rattle.law_scans.proofs.Turns.Counting.Counting as counted
use Rattle.law_scans.proofs.tries.loads_count.Goals as goal

pub returns : goal.returns
returns c = counted.loads_count
