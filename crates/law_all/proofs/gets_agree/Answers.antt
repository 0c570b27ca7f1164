use Rattle.law_all.proofs.Records as records
use Rattle.law_all.proofs.gets_agree.Goals as goal

pub returns : goal.returns
returns c = records.gets_agree
