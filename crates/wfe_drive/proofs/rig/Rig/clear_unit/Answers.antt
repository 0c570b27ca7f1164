-- What the table shows gives the seat's code what it needs, and calls of seats that stay come to what it leaves.
use Rattle.std.proofs.Common.{slice_set, subst, ◌≡◌}
use Rattle.wfe_drive_cells.specs.Unit.{TableView, seat_at}
use Rattle.wfe_drive_seat.specs.Leaving.{lets_go, told_let}
use Rattle.wfe_drive.specs.Leaving.{after_clear}
use Rattle.wfe_drive.proofs.Clearing.{clear_from, parts_from}
use Rattle.wfe_drive.proofs.rig.Rig.clear_unit.Goals as goal

pub clear-requires-clause-valid : goal.clear-requires-clause-valid
clear-requires-clause-valid g c = let p = parts_from _ c.args.self.now c.args.seat c.index_mut.result.now c.self.view_is c.self.invariant c.requires.seat c.requires.free c.index_mut.ensures.value in p.valid

pub clear-requires-clause-there : goal.clear-requires-clause-there
clear-requires-clause-there g c = let p = parts_from _ c.args.self.now c.args.seat c.index_mut.result.now c.self.view_is c.self.invariant c.requires.seat c.requires.free c.index_mut.ensures.value in p.there

pub invariant_of-self : goal.invariant_of-self
invariant_of-self g c =
    let x = clear_from _ c.args.self.now c.args.seat c.index_mut.result.now c.clear.new.self c.clear.result (g.C.Cells.words c.clear.new.cells) c.clear.new.told c.self.view_is c.self.invariant c.requires.seat c.requires.free c.index_mut.ensures.value
    c.clear.ensures.more c.clear.ensures.seat c.clear.ensures.words c.clear.ensures.told in
    x.reached

pub returns-clause-more : goal.returns-clause-more
returns-clause-more g c =
    let x = clear_from _ c.args.self.now c.args.seat c.index_mut.result.now c.clear.new.self c.clear.result (g.C.Cells.words c.clear.new.cells) c.clear.new.told c.self.view_is c.self.invariant c.requires.seat c.requires.free c.index_mut.ensures.value
    c.clear.ensures.more c.clear.ensures.seat c.clear.ensures.words c.clear.ensures.told in
    subst (λ (t : TableView). c.clear.result ≡ lets_go (seat_at t c.args.seat)) c.self.view_is x.more_is

pub returns-clause-table : goal.returns-clause-table
returns-clause-table g c =
    let x = clear_from _ c.args.self.now c.args.seat c.index_mut.result.now c.clear.new.self c.clear.result (g.C.Cells.words c.clear.new.cells) c.clear.new.told c.self.view_is c.self.invariant c.requires.seat c.requires.free c.index_mut.ensures.value
    c.clear.ensures.more c.clear.ensures.seat c.clear.ensures.words c.clear.ensures.told in
    subst (λ (t : TableView). record { layout = c.self.inside.layout; words = g.C.Cells.words c.clear.new.cells; seats = slice_set c.self.inside.seats.items c.args.seat c.clear.new.self } ≡ after_clear c.clear.result t c.args.seat) c.self.view_is x.table_is

pub returns-clause-told : goal.returns-clause-told
returns-clause-told g c =
    let x = clear_from _ c.args.self.now c.args.seat c.index_mut.result.now c.clear.new.self c.clear.result (g.C.Cells.words c.clear.new.cells) c.clear.new.told c.self.view_is c.self.invariant c.requires.seat c.requires.free c.index_mut.ensures.value
    c.clear.ensures.more c.clear.ensures.seat c.clear.ensures.words c.clear.ensures.told in
    subst (λ (t : TableView). c.clear.new.told ≡ told_let c.clear.result (seat_at t c.args.seat) t.words) c.self.view_is x.told_is
