use Rattle.law_all.proofs.Records as records
use Rattle.law_all.proofs.logs_rise.Goals as goal

pub returns : goal.returns
returns c = records.logs_rise
