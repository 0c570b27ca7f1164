-- Where a retirement stands, as a phase of the model.
use Rattle.std.specs.Prelude.{ℕ}
use Rattle.wfe_core.specs.Phases.{RetireAt, Base}
use Rattle.wfe_core.specs.Phases.Base.{Retire as RetirePhase}
use Rattle.wfe_core.specs.Phases.RetireAt.{LoadLife, LoadRetire, StoreRetired}
use Rattle.wfe_retire.specs.declared.retire.Retire.{Retire}
use Rattle.wfe_retire.specs.declared.retire.At.{At}
use Rattle.wfe_retire.specs.declared.retire.At.TheVariants as ats

abbrev pub at_of : ℕ → At → RetireAt
at_of slot ats.LoadLife = LoadLife slot
at_of slot (ats.LoadRetire birth) = LoadRetire slot birth
at_of slot (ats.StoreRetired birth retire) = StoreRetired slot birth retire

abbrev pub retire_phase : Retire → Base
retire_phase m = RetirePhase (at_of m.slot m.at)
