-- Where a protection by hazard pointers stands, as a phase of the model.
use Rattle.std.specs.Prelude.{true}
use Rattle.wfe_core.specs.Phases.{Alone, Base, HazardAt}
use Rattle.wfe_core.specs.Phases.Base.{Protect, Clear}
use Rattle.wfe_core.specs.Phases.HazardAt.{FirstLink, PublishLink, CheckLink}
use Rattle.wfe_core.specs.Phases.ProtectAt.{ByHazard}
use Rattle.wfe_hp.specs.declared.clear.HpClear.{HpClear}
use Rattle.wfe_hp.specs.declared.protect.HpProtect.{HpProtect}
use Rattle.wfe_hp.specs.declared.protect.At.{At}
use Rattle.wfe_hp.specs.declared.protect.At.TheVariants as ats

abbrev pub at_of : At → HazardAt
at_of ats.FirstLink = FirstLink
at_of (ats.PublishLink link) = PublishLink link
at_of (ats.CheckLink link) = CheckLink link

-- a protection, and a clear
abbrev pub protect_phase : HpProtect → Base
protect_phase m = Protect Alone m.index m.root m.steps (ByHazard (at_of m.at))

abbrev pub clear_phase : HpClear → Base
clear_phase m = Clear true m.index
