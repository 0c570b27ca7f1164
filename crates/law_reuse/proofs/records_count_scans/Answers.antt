use Rattle.law_reuse.proofs.Blocks.Counts as counts
use Rattle.law_reuse.proofs.records_count_scans.Goals as goal

pub returns : goal.returns
returns c = counts.records_count_scans
