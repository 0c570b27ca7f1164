-- Where a follow stands, as a phase of the model.
use Rattle.std.specs.Prelude.{ℕ, ◌≡◌}
use Rattle.wfe_core.specs.defs.declared.event.Root.{Root}
use Rattle.wfe_core.specs.defs.declared.event.Root.TheVariants.{Next}
use Rattle.wfe_core.specs.Follow.{following}
use Rattle.wfe_core.specs.Phases.{Alone, Base}
use Rattle.wfe_core.specs.Phases.ProtectAt.{LoadWithin}
use Rattle.wfe_core.specs.Phases.Base.{Begin, Protect, Reload, Clear, Finish, Release, Allocate, Write, GiveUp, Retire, Move}
use Rattle.wfe_iface.specs.declared.follow_at.At.{At}
use Rattle.wfe_iface.specs.declared.follow_at.At.TheVariants as ats

-- the phase of a follow whose protection has made so many steps
abbrev pub at_phase : {P : Type 0} → (P → Base) → (parent index steps : ℕ) → At P → Base
at_phase phase parent index steps (ats.Protecting protect) = following (phase protect)
at_phase phase parent index steps (ats.Reloading slot era) = Reload parent index slot era steps

-- the phase of a protection alone with these parts, at the step at which this phase stands
abbrev pub alone : ℕ → Root → ℕ → Base → Base
alone index root steps (Protect aim i r s at) = Protect Alone index root steps at
alone index root steps (Begin at) = Protect Alone index root steps LoadWithin
alone index root steps (Reload parent i slot era s) = Protect Alone index root steps LoadWithin
alone index root steps (Clear rows i) = Protect Alone index root steps LoadWithin
alone index root steps Finish = Protect Alone index root steps LoadWithin
alone index root steps (Release i) = Protect Alone index root steps LoadWithin
alone index root steps (Allocate at) = Protect Alone index root steps LoadWithin
alone index root steps (Write slot row place) = Protect Alone index root steps LoadWithin
alone index root steps (GiveUp slot) = Protect Alone index root steps LoadWithin
alone index root steps (Retire at) = Protect Alone index root steps LoadWithin
alone index root steps (Move at) = Protect Alone index root steps LoadWithin

-- the protection's phase, while it runs
abbrev pub protect_in : {P : Type 0} → (P → Base) → Base → At P → Base
protect_in phase other (ats.Protecting protect) = phase protect
protect_in phase other (ats.Reloading slot era) = other

-- while the protection runs, it is that of the parent's next link, alone, and has made so many steps
abbrev pub IsOf : {P : Type 0} → (P → Base) → (parent index steps : ℕ) → At P → Type 0
IsOf phase parent index steps at =
    protect_in phase (Protect Alone index (Next parent) steps LoadWithin) at
    ≡ alone index (Next parent) steps (protect_in phase (Protect Alone index (Next parent) steps LoadWithin) at)
