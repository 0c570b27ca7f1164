-- As many places as the loop has made.
use Rattle.std.proofs.Common.{ap, arith, map, ℕ, ◌+◌, ◌≡◌, ◌∙◌}
use Rattle.std.specs.Option.{option_map}
use Rattle.std.specs.Prelude.{None, replicate}
use Rattle.wfe_final.proofs.SlotsLemmas.{map-replicate}
use Rattle.wfe_final.proofs.finals.Finals.new.Goals as goal

pub returns : goal.returns
returns g c =
    let many : c.loop-slot._slot ≡ c.args.slots + 1 = omega (arith, c.loop-slot-test.false, c.loop-slot.auto._slot-end) in
    ap (map (λ o. option_map g.D.Deleter.identity o)) c.loop-slot.invariant
    ∙ map-replicate (λ o. option_map g.D.Deleter.identity o) c.loop-slot._slot None
    ∙ ap (λ (n : ℕ). replicate n None) many
