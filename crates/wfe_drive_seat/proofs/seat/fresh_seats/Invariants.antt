use Rattle.std.proofs.Common.{◌≡◌}
use Rattle.std.specs.Prelude.{map}
use Rattle.std.specs.List.{range_with_len}
use Rattle.wfe_drive_cells.specs.Unit.{fresh_seat}
use Rattle.wfe_drive_seat.proofs.seat.fresh_seats.Given as goal

-- the seats so far
abbrev pub invariant-loop-seat : goal.invariant-loop-seat
invariant-loop-seat g l = l.seats.items ≡ map (fresh_seat l.layout) (range_with_len 0 l.seat)
