use Rattle.law_all.proofs.Records as records
use Rattle.law_all.proofs.changes_are_read.Goals as goal

pub returns : goal.returns
returns c = records.changes_are_read
