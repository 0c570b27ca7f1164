use Rattle.law_held.proofs.Steps.CallCounts.Ends as ends
use Rattle.law_held.proofs.counts.records_keep_ends.Goals as goal

pub returns : goal.returns
returns c = ends.records_keep_ends
