use Rattle.law_all.proofs.Runs.Sums as sums
use Rattle.law_all.proofs.runs_add_up.Goals as goal

pub returns : goal.returns
returns c = sums.runs_add_up
