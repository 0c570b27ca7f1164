use Rattle.law_scans.proofs.Turns.HazardCounts as counted
use Rattle.law_scans.proofs.tries.hazards_count.Goals as goal

pub returns : goal.returns
returns c = counted.hazards_count
