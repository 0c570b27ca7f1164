use Rattle.law_all.proofs.Runs.Agrees as agrees
use Rattle.law_all.proofs.runs_agree.Goals as goal

pub returns : goal.returns
returns c = agrees.runs_agree
