use Rattle.inv_all.proofs.Rounds.Ending.{rounds_begin}
use Rattle.inv_all.proofs.rounds_begin.Goals as goal

pub returns : goal.returns
returns c = rounds_begin
