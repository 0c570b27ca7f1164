use Rattle.law_bounds.proofs.Eras.Judged as judged
use Rattle.law_bounds.proofs.records_judge.Goals as goal

pub returns : goal.returns
returns c = judged.records_judge
