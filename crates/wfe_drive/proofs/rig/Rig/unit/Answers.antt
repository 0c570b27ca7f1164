-- The history that the table has come to gives the seat's code what it needs, and goes on with a step.
use Rattle.std.proofs.Common.{false, slice_set, subst, ◌<◌, ◌≡◌}
use Rattle.wfe_drive_cells.specs.Unit.{IsUnit, TableView, may_adopt, seat_at}
use Rattle.wfe_drive.specs.Bare.{bare}
use Rattle.wfe_drive.specs.Reached.{units_left}
use Rattle.wfe_drive.proofs.Reached.{after_from, ready_from}
use Rattle.wfe_drive.proofs.rig.Rig.unit.Goals as goal

pub unit-requires-clause-there : goal.unit-requires-clause-there
unit-requires-clause-there g c = let r = ready_from _ c.args.self.now c.args.seat c.index_mut.result.now c.self.view_is c.self.invariant c.requires.seat c.requires.busy c.index_mut.ensures.value in r.there

pub unit-requires-clause-valid : goal.unit-requires-clause-valid
unit-requires-clause-valid g c = let r = ready_from _ c.args.self.now c.args.seat c.index_mut.result.now c.self.view_is c.self.invariant c.requires.seat c.requires.busy c.index_mut.ensures.value in r.valid

pub unit-requires-clause-ready : goal.unit-requires-clause-ready
unit-requires-clause-ready g c = let r = ready_from _ c.args.self.now c.args.seat c.index_mut.result.now c.self.view_is c.self.invariant c.requires.seat c.requires.busy c.index_mut.ensures.value in r.ready

pub unit-requires-clause-noted : goal.unit-requires-clause-noted
unit-requires-clause-noted g c = let r = ready_from _ c.args.self.now c.args.seat c.index_mut.result.now c.self.view_is c.self.invariant c.requires.seat c.requires.busy c.index_mut.ensures.value in r.noted

pub unit-requires-clause-plausible : goal.unit-requires-clause-plausible
unit-requires-clause-plausible g c = let r = ready_from _ c.args.self.now c.args.seat c.index_mut.result.now c.self.view_is c.self.invariant c.requires.seat c.requires.busy c.index_mut.ensures.value in r.plausible

pub unit-requires-clause-goes : goal.unit-requires-clause-goes
unit-requires-clause-goes g c = let r = ready_from _ c.args.self.now c.args.seat c.index_mut.result.now c.self.view_is c.self.invariant c.requires.seat c.requires.busy c.index_mut.ensures.value in r.goes

pub invariant_of-self : goal.invariant_of-self
invariant_of-self g c =
    let a = after_from _ c.args.self.now c.args.seat c.index_mut.result.now c.unit.new.self (g.C.Cells.words c.unit.new.cells) c.unit.new.told c.unit.result c.self.view_is c.self.invariant c.requires.seat c.requires.busy c.index_mut.ensures.value
    c.unit.ensures.words c.unit.ensures.seat c.unit.ensures.told c.unit.ensures.answer in
    a.reached

pub returns-clause-falls : goal.returns-clause-falls
returns-clause-falls g c =
    let a = after_from _ c.args.self.now c.args.seat c.index_mut.result.now c.unit.new.self (g.C.Cells.words c.unit.new.cells) c.unit.new.told c.unit.result c.self.view_is c.self.invariant c.requires.seat c.requires.busy c.index_mut.ensures.value
    c.unit.ensures.words c.unit.ensures.seat c.unit.ensures.told c.unit.ensures.answer in
    subst (λ (t : TableView). units_left (record { layout = c.self.inside.layout; words = g.C.Cells.words c.unit.new.cells; seats = slice_set c.self.inside.seats.items c.args.seat c.unit.new.self }) c.args.seat < units_left t c.args.seat) c.self.view_is a.falls

pub returns-clause-unit : goal.returns-clause-unit
returns-clause-unit g c =
    let a = after_from _ c.args.self.now c.args.seat c.index_mut.result.now c.unit.new.self (g.C.Cells.words c.unit.new.cells) c.unit.new.told c.unit.result c.self.view_is c.self.invariant c.requires.seat c.requires.busy c.index_mut.ensures.value
    c.unit.ensures.words c.unit.ensures.seat c.unit.ensures.told c.unit.ensures.answer in
    subst (λ (t : TableView). IsUnit t (record { layout = c.self.inside.layout; words = g.C.Cells.words c.unit.new.cells; seats = slice_set c.self.inside.seats.items c.args.seat c.unit.new.self }) c.args.seat c.unit.new.told c.unit.result) c.self.view_is a.unit

pub returns-clause-bare : goal.returns-clause-bare
returns-clause-bare g c =
    let a = after_from _ c.args.self.now c.args.seat c.index_mut.result.now c.unit.new.self (g.C.Cells.words c.unit.new.cells) c.unit.new.told c.unit.result c.self.view_is c.self.invariant c.requires.seat c.requires.busy c.index_mut.ensures.value
    c.unit.ensures.words c.unit.ensures.seat c.unit.ensures.told c.unit.ensures.answer in
    subst (λ (t : TableView). IsUnit (bare t) (bare (record { layout = c.self.inside.layout; words = g.C.Cells.words c.unit.new.cells; seats = slice_set c.self.inside.seats.items c.args.seat c.unit.new.self })) c.args.seat c.unit.new.told c.unit.result) c.self.view_is a.bare_unit

pub returns-clause-own : goal.returns-clause-own
returns-clause-own g c =
    let a = after_from _ c.args.self.now c.args.seat c.index_mut.result.now c.unit.new.self (g.C.Cells.words c.unit.new.cells) c.unit.new.told c.unit.result c.self.view_is c.self.invariant c.requires.seat c.requires.busy c.index_mut.ensures.value
    c.unit.ensures.words c.unit.ensures.seat c.unit.ensures.told c.unit.ensures.answer in
    subst (λ (t : TableView). may_adopt (seat_at t c.args.seat).phase ≡ false) c.self.view_is a.own
