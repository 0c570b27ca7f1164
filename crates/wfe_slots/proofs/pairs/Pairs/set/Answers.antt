use Rattle.wfe_slots.proofs.Places.{set_at}
use Rattle.wfe_slots.proofs.pairs.Pairs.set.Goals as goal

pub returns : goal.returns
returns c = set_at c.self.inside.pairs c.args.self.now c.self.inside.len c.args.place (c.args.key, c.args.value) c.self.view_is c.requires
