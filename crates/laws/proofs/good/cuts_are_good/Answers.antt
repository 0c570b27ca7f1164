use Rattle.laws.proofs.Cuts.{cuts_good}
use Rattle.laws.proofs.good.cuts_are_good.Goals as goal

pub returns : goal.returns
returns c = cuts_good
