use Rattle.law_reuse.proofs.Turns.Counted as counted
use Rattle.law_reuse.proofs.histories_count.Goals as goal

pub returns : goal.returns
returns c = counted.histories_count
