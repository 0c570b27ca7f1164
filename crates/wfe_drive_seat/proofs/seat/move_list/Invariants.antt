use Rattle.std.proofs.Common.{◌≡◌}
use Rattle.wfe_drive_seat.specs.Leaving.{moved_views}
use Rattle.wfe_drive_seat.proofs.seat.move_list.Given as goal

-- so many went
abbrev pub invariant-loop-place : goal.invariant-loop-place
invariant-loop-place g l = l.seats.items ≡ moved_views l.fn.layout l.initial.seats.items l.fn.from l.fn.to l.place
