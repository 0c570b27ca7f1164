use Rattle.law_all.proofs.Records as records
use Rattle.law_all.proofs.calls_answer.Goals as goal

pub returns : goal.returns
returns c = records.calls_answer
