-- What a number tells of who offered its object, and a word of the number.
use Rattle.std.proofs.Common.{arith, ℕ, ◌%◌, ◌*◌, ◌+◌, ◌<◌, ◌≡◌}
use Rattle.wfe_shared_cells.specs.Calls.{PartNow, next_number, number_in, word_of}
use Rattle.wfe_cells.specs.table.rule.Views.{seat_of}

parts : (one other seat place : ℕ) → one * 64 + seat % 64 ≡ other * 64 + place % 64 → (one ≡ other) × (seat % 64 ≡ place % 64)
parts one other seat place same = (omega (arith, same), omega (arith, same))

pub apart : (one other : PartNow) → next_number one ≡ next_number other
    → (one.count ≡ other.count) × (seat_of one.user.seat.track % 64 ≡ seat_of other.user.seat.track % 64)
apart one other same = parts one.count other.count (seat_of one.user.seat.track) (seat_of other.user.seat.track) same

pub told : (number place : ℕ) → place < 65536 → number_in (word_of number place) ≡ number
told number place below = omega (arith, below)
