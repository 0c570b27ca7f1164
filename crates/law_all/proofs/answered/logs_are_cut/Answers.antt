use Rattle.law_all.proofs.Logs.Cuts as cuts
use Rattle.law_all.proofs.answered.logs_are_cut.Goals as goal

pub returns : goal.returns
returns c = cuts.logs_are_cut
