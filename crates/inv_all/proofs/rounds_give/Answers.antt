use Rattle.inv_all.proofs.Rounds.Ending.{rounds_give}
use Rattle.inv_all.proofs.rounds_give.Goals as goal

pub returns : goal.returns
returns c = rounds_give
