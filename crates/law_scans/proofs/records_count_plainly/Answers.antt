use Rattle.law_scans.proofs.FewRetired.Plain as plain
use Rattle.law_scans.proofs.records_count_plainly.Goals as goal

pub returns : goal.returns
returns c = plain.records_count_plainly
