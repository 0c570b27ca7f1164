-- A unit: what the rig and the seat's part make of it is a unit of the table that is laid over the rig.
use Rattle.wfe_leave.proofs.Kept.{made_from, may_from, words_from}
use Rattle.wfe_leave.proofs.rig.LeaveRig.unit.Goals as goal

pub make_unit-requires-clause-words : goal.make_unit-requires-clause-words
make_unit-requires-clause-words g c = words_from c.self.inside.rig c.self.inside.layout c.self.inside.parts.items c.self.invariant

pub make_unit-requires-clause-may : goal.make_unit-requires-clause-may
make_unit-requires-clause-may g c = may_from c.self.inside.rig c.args.self.now c.self.inside.layout c.self.inside.parts.items c.args.seat c.index_mut-part.result.now c.self.view_is c.self.invariant c.requires.seat c.requires.busy c.index_mut-part.ensures.value

pub invariant_of-self : goal.invariant_of-self
invariant_of-self g c =
    let m = made_from c.self.inside.rig c.args.self.now c.make_unit.new.rig c.self.inside.layout c.self.inside.parts.items c.args.seat c.index_mut-part.result.now c.make_unit.new.part c.make_unit.new.told c.make_unit.result c.self.view_is c.self.invariant c.requires.seat c.requires.busy c.index_mut-part.ensures.value c.make_unit.ensures in
    m.leaving

pub returns-clause-unit : goal.returns-clause-unit
returns-clause-unit g c =
    let m = made_from c.self.inside.rig c.args.self.now c.make_unit.new.rig c.self.inside.layout c.self.inside.parts.items c.args.seat c.index_mut-part.result.now c.make_unit.new.part c.make_unit.new.told c.make_unit.result c.self.view_is c.self.invariant c.requires.seat c.requires.busy c.index_mut-part.ensures.value c.make_unit.ensures in
    m.unit

pub returns-clause-falls : goal.returns-clause-falls
returns-clause-falls g c =
    let m = made_from c.self.inside.rig c.args.self.now c.make_unit.new.rig c.self.inside.layout c.self.inside.parts.items c.args.seat c.index_mut-part.result.now c.make_unit.new.part c.make_unit.new.told c.make_unit.result c.self.view_is c.self.invariant c.requires.seat c.requires.busy c.index_mut-part.ensures.value c.make_unit.ensures in
    m.falls
