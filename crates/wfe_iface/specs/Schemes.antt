-- Where the machines stand that a scheme makes.
use Rattle.std.specs.Prelude.{Option, Some, None}
use Rattle.wfe_core.specs.Phases.{Base}

-- where the machine stands, if the scheme makes one
abbrev pub phases : {M : Type 0} → (M → Base) → Option M → Option Base
phases phase None = None
phases phase (Some machine) = Some (phase machine)

-- where each machine of a scheme's rounds stands: those that a round begins with and ends with, a protection and a clear
pub record RoundPhases (B P C F : Type 0) : Type 0 where
  pub begin : B → Base
  pub protect : P → Base
  pub clear : C → Base
  pub finish : F → Base

abbrev pub round_phases : {B P C F : Type 0} → (B → Base) → (P → Base) → (C → Base) → (F → Base) → RoundPhases B P C F
round_phases begin protect clear finish = record { begin = begin; protect = protect; clear = clear; finish = finish }
