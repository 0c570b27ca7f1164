use Rattle.std.proofs.Common.{◌≡◌, ◌<◌, ℕ, length}
use Rattle.wfe_check_held.specs.Times.{first_row, row_at}
use Rattle.wfe_check_held.proofs.rows.first_rows.Given as goal

-- the rows before this one
abbrev pub invariant-loop-slot : goal.invariant-loop-slot
invariant-loop-slot l = (length l.rows.items ≡ l.slot) × ((s : ℕ) → s < l.slot → row_at l.rows.items s ≡ first_row l.slots s)
