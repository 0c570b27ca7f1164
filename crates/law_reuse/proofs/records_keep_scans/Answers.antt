use Rattle.law_reuse.proofs.Blocks.Keeps as keeps
use Rattle.law_reuse.proofs.records_keep_scans.Goals as goal

pub returns : goal.returns
returns c = keeps.records_keep_scans
