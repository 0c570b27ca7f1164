use Rattle.std.proofs.Common.{◌≡◌, false, arith}
use Rattle.std.proofs.lemmas.Bool.Decides.{nat_tests}
use Rattle.std.specs.Prelude.{◌==◌}
use Rattle.wfe_slots.proofs.Places.{place_on}
use Rattle.wfe_slots.proofs.pairs.Pairs.place.Goals as goal

pub loop-place-preserved : goal.loop-place-preserved
loop-place-preserved c =
    let other : (c.get-pair.result.0 == c.args.key) ≡ false = grind (arith, nat_tests, c.if-pair-key.false) in
    place_on c.args.self.now c.get-pair.result c.args.key c.loop-place.place (omega (arith, c.loop-place-test.true, c.len-place-end.ensures.count)) c.get-pair.ensures c.loop-place.invariant other
