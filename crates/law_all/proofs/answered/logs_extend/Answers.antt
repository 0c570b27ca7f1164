use Rattle.law_all.proofs.Logs.Meets as meets
use Rattle.law_all.proofs.answered.logs_extend.Goals as goal

pub returns : goal.returns
returns c = meets.logs_extend
