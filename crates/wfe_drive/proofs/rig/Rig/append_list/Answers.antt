-- What the table shows gives the list room, and the World in which it went is what the table shows then.
use Rattle.std.proofs.Common.{List, arith, subst, sym}
use Rattle.wfe_drive_cells.specs.Unit.{SeatView}
use Rattle.wfe_drive.specs.Bare.{bare}
use Rattle.wfe_drive.specs.Reached.{IsReached}
use Rattle.wfe_drive.proofs.Joining.{join_from}
use Rattle.wfe_drive.proofs.rig.Rig.append_list.Goals as goal

pub move_list-requires-clause-fits : goal.move_list-requires-clause-fits
move_list-requires-clause-fits g c =
    let j = join_from _ c.args.self.now c.args.from c.args.to c.self.view_is c.self.invariant c.requires.from c.requires.to c.requires.apart c.requires.given c.requires.taken in
    j.fits

pub overflow_cast-result : goal.overflow_cast-result
overflow_cast-result g c =
    let j = join_from _ c.args.self.now c.args.from c.args.to c.self.view_is c.self.invariant c.requires.from c.requires.to c.requires.apart c.requires.given c.requires.taken in
    omega (c.move_list.ensures.most, j.few, arith)

pub invariant_of-self : goal.invariant_of-self
invariant_of-self g c =
    let j = join_from _ c.args.self.now c.args.from c.args.to c.self.view_is c.self.invariant c.requires.from c.requires.to c.requires.apart c.requires.given c.requires.taken in
    subst (λ (views : List SeatView). IsReached (bare (record { layout = c.self.inside.layout; words = g.C.Cells.words c.self.inside.cells; seats = views }))) (sym c.move_list.ensures.seats) j.reached
