use Rattle.laws.proofs.Grows.{good_grows}
use Rattle.laws.proofs.good.good_grows.Goals as goal

pub returns : goal.returns
returns c = good_grows
