-- A life that is not in the list has room in it.
use Rattle.std.proofs.Common.{arith}
use Rattle.std.proofs.lemmas.Grind.{common_steps}
use Rattle.std.specs.Vec.{vec_capacity}
use Rattle.wfe_core.proofs.Lists.{fits_room, fits_push}
use Rattle.wfe_core.proofs.desk.RetireList.add.Goals as goal

pub prove-unreachable-requires : goal.prove-unreachable-requires
prove-unreachable-requires c =
    let row = rw (← c.self.view_is) at c.requires.row in
    let apart = rw (← c.self.view_is) at c.requires.apart in
    let room = fits_room _ c.args.life _ _ c.self.invariant row apart in
    grind (arith, common_steps, room, c.push.ensures.succeeds, c.is_ok-added.ensures, c.if-prove.true)

pub invariant_of-self : goal.invariant_of-self
invariant_of-self c =
    let row = rw (← c.self.view_is) at c.requires.row in
    let apart = rw (← c.self.view_is) at c.requires.apart in
    let pushed = fits_push _ c.args.life _ _ (vec_capacity c.push.new.self) c.self.invariant row apart c.push.ensures.capacity in
    rw (c.push.ensures.items, ← c.is_ok-added.ensures.value, c.if-prove.false) pushed
