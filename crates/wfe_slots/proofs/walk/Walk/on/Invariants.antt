use Rattle.std.proofs.Common.{◌≡◌, ◌≤◌}
use Rattle.wfe_core.specs.Allocate.{walk_on}
use Rattle.wfe_slots.specs.Phases.{walk_of}
use Rattle.wfe_slots.proofs.walk.Walk.on.Given as goal

abbrev pub invariant-loop-left : goal.invariant-loop-left
invariant-loop-left l =
    record {
      slot : l.slot ≤ l.slots;
      on : walk_on l.slots (walk_of l.self) l.left l.slot ≡ walk_on l.slots (walk_of l.self) l.self.left l.self.slot;
    }

abbrev pub decreases-loop-left : goal.decreases-loop-left
decreases-loop-left l = l.left
