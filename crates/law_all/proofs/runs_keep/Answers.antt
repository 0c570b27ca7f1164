use Rattle.law_all.proofs.Runs.Keeping as keeping
use Rattle.law_all.proofs.runs_keep.Goals as goal

pub returns : goal.returns
returns c = keeping.runs_keep
