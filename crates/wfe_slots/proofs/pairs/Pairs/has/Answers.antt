use Rattle.std.proofs.Common.{◌∙◌}
use Rattle.wfe_slots.proofs.Places.{has_by}
use Rattle.wfe_slots.proofs.pairs.Pairs.has.Goals as goal

pub returns : goal.returns
returns c = c.is_some.ensures ∙ has_by c.args.self.now c.args.key c.place.result c.place.ensures
