-- The slots before this one are added.
use Rattle.std.proofs.Common.{take, ◌++◌, ◌≡◌}
use Rattle.law_all.specs.RunLaw.{backs}
use Rattle.wfe_server_lines.proofs.events.push_backs.Given as goal

abbrev pub invariant-loop-slot : goal.invariant-loop-slot
invariant-loop-slot l = l.events.items ≡ l.fn.events.items ++ backs (take l.slot-index l.slots)
