use Rattle.wfe_table.proofs.Adopts.{adopt_bound}
use Rattle.wfe_table.proofs.shared.Shared.take_place.Goals as goal

pub returns-clause-bound : goal.returns-clause-bound
returns-clause-bound c = adopt_bound _ _ c.take.new.self c.args.place c.take.result c.take.ensures.made
