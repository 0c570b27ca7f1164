use Rattle.std.proofs.Common.{length, ◌+◌, ◌≡◌}
use Rattle.wfe_drive_seat.proofs.seat.empty.Given as goal

-- so many are left
abbrev pub invariant-loop-turn : goal.invariant-loop-turn
invariant-loop-turn l = record {
  count : length l.list.lives + l._turn ≡ l.count;
  slots : l.list.slots ≡ l.initial.list.slots;
}
