use Rattle.inv_all.proofs.Rounds.Ending.{rounds_start}
use Rattle.inv_all.proofs.rounds_start.Goals as goal

pub returns : goal.returns
returns c = rounds_start
