-- Tests of all numbers below one.
use Rattle.std.specs.Prelude.{ℕ, zero, suc, Bool, true, ◌&&◌}

-- the test holds of each number below this one
abbrev pub all_below : (ℕ → Bool) → (below : ℕ) → Bool
all_below test zero = true
all_below test (suc n) = test n && all_below test n
