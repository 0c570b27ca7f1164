use Rattle.wfe_leave.specs.Parts.{AllStay}
use Rattle.wfe_leave.proofs.rig.all_stay.Given as goal

-- the parts so far
abbrev pub invariant-loop-seat : goal.invariant-loop-seat
invariant-loop-seat l = AllStay l.parts.items l._seat
