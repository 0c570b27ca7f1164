use Rattle.std.proofs.Common.{◌≡◌, ◌<◌, ℕ, get_or}
use Rattle.wfe_check_calls.proofs.seat.take_out.Given as goal

abbrev pub invariant-loop-place : goal.invariant-loop-place
invariant-loop-place l = record { same : l.cuts.items ≡ l.initial.cuts.items; before : (k : ℕ) → k < l.place → get_or l.cuts.items k 0 ≡ l.slot → ⊥ }
