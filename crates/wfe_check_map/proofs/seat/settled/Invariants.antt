use Rattle.std.proofs.Common.{◌≡◌, None, take, length, ◌-◌}
use Rattle.wfe_check_map.specs.Seats.{next_due}
use Rattle.wfe_check_map.proofs.seat.settled.Given as goal

abbrev pub invariant-loop-place : goal.invariant-loop-place
invariant-loop-place l = next_due l.values (take l.initial.place l.lives) ≡ None → next_due l.values (take l.place l.lives) ≡ None

abbrev pub decreases-loop-place : goal.decreases-loop-place
decreases-loop-place l = length l.lives - l.place
