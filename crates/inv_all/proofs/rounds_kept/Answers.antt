use Rattle.inv_all.proofs.Rounds.Ending.{rounds_kept}
use Rattle.inv_all.proofs.rounds_kept.Goals as goal

pub returns : goal.returns
returns c = rounds_kept
