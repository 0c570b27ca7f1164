use Rattle.std.proofs.Common.{◌∙◌, sym}
use Rattle.wfe_slots.proofs.Places.{with_new, with_there, put_fits}
use Rattle.wfe_slots.proofs.pairs.Pairs.put.Goals as goal

pub push-requires : goal.push-requires
push-requires c = put_fits c.args.self.now c.args.key c.args.value c.in-None.ensures c.requires

pub returns-in-Some : goal.returns-in-Some
returns-in-Some c = c.set.ensures ∙ sym (with_there c.args.self.now c.args.key c.args.value c.in-Some.place c.in-Some.ensures.0 c.in-Some.ensures.1 c.in-Some.ensures.2)

pub returns-in-None : goal.returns-in-None
returns-in-None c = c.push.ensures ∙ sym (with_new c.args.self.now c.args.key c.args.value c.in-None.ensures)
