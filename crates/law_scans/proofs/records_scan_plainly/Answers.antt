use Rattle.law_scans.proofs.FewRetired.Plain as plain
use Rattle.law_scans.proofs.records_scan_plainly.Goals as goal

pub returns : goal.returns
returns c = plain.records_scan_plainly
