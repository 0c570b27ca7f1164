-- When a lifetime and an interval of eras meet.
use Rattle.std.specs.Prelude.{◌==◌, ◌&&◌, ◌||◌, nat_le, Bool}
use Rattle.wfe_defs.specs.declared.lifetime.Interval.{Interval}
use Rattle.wfe_defs.specs.declared.lifetime.Lifetime.{Lifetime}

-- it began when the interval ended at the latest, and is not over before the interval begins; a life with retire era 0 is not over
abbrev pub meets : Lifetime → Interval → Bool
meets life span = nat_le life.birth span.hi && (life.retire == 0 || nat_le span.lo life.retire)
