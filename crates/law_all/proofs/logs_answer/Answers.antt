use Rattle.law_all.proofs.Records as records
use Rattle.law_all.proofs.logs_answer.Goals as goal

pub returns : goal.returns
returns c = records.logs_answer
