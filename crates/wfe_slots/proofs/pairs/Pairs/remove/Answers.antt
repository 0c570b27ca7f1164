use Rattle.std.proofs.Common.{arith, ◌∙◌}
use Rattle.wfe_slots.proofs.Places.{rest_on, other_more}
use Rattle.wfe_slots.proofs.pairs.Pairs.remove.Goals as goal

pub loop-place-preserved : goal.loop-place-preserved
loop-place-preserved c =
    record {
      rest = c.push_other.ensures ∙ rest_on c.args.self.now c.loop-place.rest c.get.result c.args.key c.loop-place.place (omega (arith, c.loop-place-test.true, c.len-place-end.ensures.count)) c.get.ensures c.loop-place.invariant.rest;
      few = rw c.push_other.ensures (omega (arith, other_more c.loop-place.rest c.get.result c.args.key, c.loop-place.invariant.few));
    }
