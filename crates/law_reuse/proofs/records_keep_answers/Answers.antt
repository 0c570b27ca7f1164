use Rattle.law_reuse.proofs.AnswersTold.Answering as answering
use Rattle.law_reuse.proofs.records_keep_answers.Goals as goal

pub returns : goal.returns
returns c = answering.records_keep_answers
