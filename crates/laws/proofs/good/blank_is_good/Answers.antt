use Rattle.laws.proofs.Grows.{blank_good}
use Rattle.laws.proofs.good.blank_is_good.Goals as goal

pub returns : goal.returns
returns c = blank_good
