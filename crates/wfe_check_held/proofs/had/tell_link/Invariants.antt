use Rattle.std.proofs.Common.{◌≡◌, ◌<◌, ◌+◌, ◌==◌, ◌&&◌, ℕ, if◌then◌else◌, length, nat_lt}
use Rattle.wfe_check_held.specs.Grids.{cell_at}
use Rattle.wfe_check_held.specs.Roots.{looks_at}
use Rattle.wfe_check_held.specs.Times.{seat_at}
use Rattle.wfe_check_held.proofs.had.tell_link.Given as goal

-- the seats before this one are told
abbrev pub invariant-loop-i : goal.invariant-loop-i
invariant-loop-i l =
    (l.had.width ≡ l.initial.had.width)
    × (length l.had.cells.items ≡ length l.initial.had.cells.items)
    × ((i q : ℕ) → i < length l.seats → q < l.initial.had.width →
    cell_at l.had i q
    ≡ (if nat_lt i l.i && (looks_at l.buckets (seat_at l.seats i).call l.root && q == l.slot + 1) then (seat_at l.seats i).begun else cell_at l.initial.had i q))
