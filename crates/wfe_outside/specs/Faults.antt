-- When a count of faults rose.
use Rattle.std.specs.Prelude.{◌≡◌, ℕ, ◌+◌, ◌==◌, ◌<◌, ◌≤◌, Bool, false, if◌then◌else◌}

-- one more, or the greatest number of 64 bits, at which a count stands still
abbrev pub one_more : ℕ → ℕ
one_more n = if n == 18446744073709551615 then n else n + 1

-- The count rose. Only where it may stand still may it have stood at the greatest number of 64 bits, and stand there now.
pub record Rose (may_stand : Bool) (before now : ℕ) : Type 0 where
  pub rises : may_stand ≡ false → before < now
  pub least : one_more before ≤ now
