-- Where a protection of Hazard Eras stands, as a phase of the model.
use Rattle.std.specs.Prelude.{false}
use Rattle.wfe_core.specs.Phases.{Alone, Endless, ProtectAt, Base}
use Rattle.wfe_core.specs.Phases.Base.{Protect, Clear}
use Rattle.wfe_core.specs.Phases.ProtectAt.{LoadClock, PublishEra, LoadLink, CheckClock}
use Rattle.wfe_he.specs.declared.clear.HeClear.{HeClear}
use Rattle.wfe_he.specs.declared.protect.HeProtect.{HeProtect}
use Rattle.wfe_he.specs.declared.protect.At.{At}
use Rattle.wfe_he.specs.declared.protect.At.TheVariants as ats

abbrev pub at_of : At → ProtectAt
at_of ats.LoadClock = LoadClock Endless
at_of (ats.PublishEra era) = PublishEra era Endless
at_of (ats.LoadLink era) = LoadLink era Endless
at_of (ats.CheckClock era link) = CheckClock era Endless link

-- a protection, and a clear
abbrev pub protect_phase : HeProtect → Base
protect_phase m = Protect Alone m.index m.root m.steps (at_of m.at)

abbrev pub clear_phase : HeClear → Base
clear_phase m = Clear false m.index
