use Rattle.law_scans.proofs.FewRetired.Few as few
use Rattle.law_scans.proofs.records_retire_few.Goals as goal

pub returns : goal.returns
returns c = few.records_retire_few
