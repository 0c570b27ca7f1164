use Rattle.laws.proofs.Lawful.{lawful_good}
use Rattle.laws.proofs.good.lawful_is_good.Goals as goal

pub returns : goal.returns
returns c = lawful_good
