use Rattle.std.proofs.Common.{arith, ◌∙◌}
use Rattle.wfe_table.proofs.Listed.{adds_at, more_at}
use Rattle.wfe_table.proofs.take.append.Goals as goal

pub add-requires-clause-row : goal.add-requires-clause-row
add-requires-clause-row c =
    let i = c.loop-place.invariant in
    let a = adds_at _ _ _ _ c.loop-place.place c.get.result c.requires.fits i.lives c.get.ensures in
    omega (arith, a.slot, i.slots)

pub add-requires-clause-apart : goal.add-requires-clause-apart
add-requires-clause-apart c =
    let i = c.loop-place.invariant in
    (adds_at _ _ _ _ c.loop-place.place c.get.result c.requires.fits i.lives c.get.ensures).apart

pub loop-place-preserved : goal.loop-place-preserved
loop-place-preserved c =
    let i = c.loop-place.invariant in
    record { lives = more_at _ _ _ _ c.loop-place.place c.get.result i.lives c.get.ensures c.add.ensures.lives; slots = c.add.ensures.slots ∙ i.slots }
