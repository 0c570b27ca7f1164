-- A seat's list and scan, as they are kept.
use Rattle.std.specs.Prelude.{ℕ, Bool, false, List, []}
use Rattle.wfe_defs.specs.declared.lifetime.Lifetime.{Lifetime}
use Rattle.wfe_defs.specs.declared.shown.Shown.{Shown}

pub record Scanning : Type 0 where
  -- the seat's list
  pub lives : List Lifetime
  -- what it has read of its block
  pub values : List Shown
  -- how many lives from the first on that keeps
  pub place : ℕ
  -- its last entry is of a scan
  pub scans : Bool

abbrev pub no_scanning : Scanning
no_scanning = record { lives = []; values = []; place = 0; scans = false }
