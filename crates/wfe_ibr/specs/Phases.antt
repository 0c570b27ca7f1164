-- Where the machines of 2GE stand, as phases of the model.
use Rattle.wfe_core.specs.Phases.{Alone, BeginAt, ProtectAt, Base}
use Rattle.wfe_core.specs.Phases.Base.{Begin, Protect, Finish, Release}
use Rattle.wfe_core.specs.Phases.BeginAt.{LoadLower, PublishSpan}
use Rattle.wfe_core.specs.Phases.ProtectAt.{LoadWithin, CheckUpper, RaiseUpper}
use Rattle.wfe_ibr.specs.declared.begin.IbrBegin.{IbrBegin}
use Rattle.wfe_ibr.specs.declared.begin.BeginAt.TheVariants as begins
use Rattle.wfe_ibr.specs.declared.begin.BeginAt as begin_at
use Rattle.wfe_ibr.specs.declared.protect.IbrProtect.{IbrProtect}
use Rattle.wfe_ibr.specs.declared.protect.At.{At}
use Rattle.wfe_ibr.specs.declared.protect.At.TheVariants as ats
use Rattle.wfe_ibr.specs.declared.withdraw.IbrFinish.{IbrFinish}
use Rattle.wfe_ibr.specs.declared.withdraw.IbrRelease.{IbrRelease}

abbrev pub begin_of : begin_at.BeginAt → BeginAt
begin_of begins.LoadLower = LoadLower
begin_of (begins.PublishSpan era) = PublishSpan era

abbrev pub at_of : At → ProtectAt
at_of ats.LoadWithin = LoadWithin
at_of (ats.CheckUpper link) = CheckUpper link
at_of (ats.RaiseUpper era) = RaiseUpper era

-- each machine's phase
abbrev pub begin_phase : IbrBegin → Base
begin_phase m = Begin (begin_of m.at)

abbrev pub protect_phase : IbrProtect → Base
protect_phase m = Protect Alone m.index m.root m.steps (at_of m.at)

abbrev pub finish_phase : IbrFinish → Base
finish_phase m = Finish

abbrev pub release_phase : IbrRelease → Base
release_phase m = Release m.index
