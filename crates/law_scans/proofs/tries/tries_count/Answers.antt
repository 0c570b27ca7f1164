use Rattle.law_scans.proofs.Turns.TryCounts as tried
use Rattle.law_scans.proofs.tries.tries_count.Goals as goal

pub returns : goal.returns
returns c = tried.tries_count
