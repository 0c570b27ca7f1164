use Rattle.law_worked.proofs.RunRecords.Texts as texts
use Rattle.law_worked.proofs.runs.wrong_texts_are_refused.Goals as goal

pub returns : goal.returns
returns c = texts.wrong_texts_refused
