-- Where an allocation and a giving up stand, as phases of the model.
use Rattle.std.specs.Prelude.{Option, Some, None}
use Rattle.wfe_core.specs.Phases.{AllocateAt, Base, Walk as ModelWalk}
use Rattle.wfe_core.specs.Phases.AllocateAt.{LoadBirth, ClaimSlot, StoreLife}
use Rattle.wfe_core.specs.Phases.Base.{Allocate as AllocatePhase, GiveUp as GiveUpPhase}
use Rattle.wfe_slots.specs.declared.allocate.Allocate.{Allocate}
use Rattle.wfe_slots.specs.declared.allocate.At.{At}
use Rattle.wfe_slots.specs.declared.allocate.At.TheVariants as ats
use Rattle.wfe_slots.specs.declared.give_up.GiveUp.{GiveUp}
use Rattle.wfe_slots.specs.declared.walk.Walk.{Walk}

abbrev pub walk_of : Walk → ModelWalk
walk_of walk = record { start = walk.start; slot = walk.slot; left = walk.left; first = walk.first; shown = walk.shown }

abbrev pub walks_of : Option Walk → Option ModelWalk
walks_of None = None
walks_of (Some walk) = Some (walk_of walk)

abbrev pub at_of : At → AllocateAt
at_of ats.LoadBirth = LoadBirth
at_of (ats.ClaimSlot birth walk) = ClaimSlot birth (walk_of walk)
at_of (ats.StoreLife birth slot) = StoreLife birth slot

abbrev pub allocate_phase : Allocate → Base
allocate_phase m = AllocatePhase (at_of m.at)

abbrev pub give_up_phase : GiveUp → Base
give_up_phase m = GiveUpPhase m.slot
