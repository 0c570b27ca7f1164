-- A call begins: the seat's part is where it begins, and the rig has it where it is one of the rig's.
use Rattle.wfe_leave.proofs.Kept.{free_from, started}
use Rattle.wfe_leave.proofs.rig.LeaveRig.start.Goals as goal

pub start_call-part-requires-clause-free : goal.start_call-part-requires-clause-free
start_call-part-requires-clause-free g c = free_from c.self.inside.rig c.args.self.now c.self.inside.layout c.self.inside.parts.items c.args.seat c.self.view_is c.self.invariant c.requires.free

pub invariant_of-self : goal.invariant_of-self
invariant_of-self g c =
    let s = started c.self.inside.rig c.args.self.now c.start_call-part.new.rig c.self.inside.layout c.self.inside.parts.items c.args.seat c.args.call c.start_call-part.result c.self.view_is c.self.invariant c.requires.seat c.requires.free c.requires.may c.requires.here c.start_call-part.ensures.part c.start_call-part.ensures.table in
    s.leaving

pub returns : goal.returns
returns g c =
    let s = started c.self.inside.rig c.args.self.now c.start_call-part.new.rig c.self.inside.layout c.self.inside.parts.items c.args.seat c.args.call c.start_call-part.result c.self.view_is c.self.invariant c.requires.seat c.requires.free c.requires.may c.requires.here c.start_call-part.ensures.part c.start_call-part.ensures.table in
    record { table = s.is }
