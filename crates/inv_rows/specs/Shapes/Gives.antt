-- What the shape of seats, the eras and the links give to other parts, phase by phase.
use Rattle.std.specs.Prelude.{ℕ, ◌≡◌, ◌≤◌, ◌<◌, ◌+◌, Bool, true}
use Rattle.wfe_core.specs.words.Place.{has}
use Rattle.wfe_core.specs.words.Place.Place.{Clock}
use Rattle.wfe_core.specs.defs.declared.event.Root.{Root}
use Rattle.wfe_core.specs.Links.{link_place}
use Rattle.wfe_core.specs.Phases.{Aim, ProtectAt, Walk}
use Rattle.wfe_core.specs.Phases.AllocateAt.{ClaimSlot, StoreLife}
use Rattle.wfe_core.specs.Phases.Base.{Protect, Clear, Allocate}
use Rattle.wfe_core.specs.Calls.{Why, Runs}
use Rattle.wfe_core.specs.World.{World}

-- a protection's index is one of a seat's, and its root is a word of the table
pub record GuardThere (w : World) (index : ℕ) (root : Root) : Type 0 where
  pub below : index < w.layout.config.indexes
  pub there : has w.layout (link_place root) ≡ true

abbrev pub GivesGuards : World → Type 0
GivesGuards w =
    (k : ℕ) (why : Why) (aim : Aim) (index : ℕ) (root : Root) (steps : ℕ) (at : ProtectAt)
    → (w.seat k).phase ≡ Runs why (Protect aim index root steps at)
    → GuardThere w index root

-- so is the index that is cleared
abbrev pub GivesClears : World → Type 0
GivesClears w = (k : ℕ) (why : Why) (rows : Bool) (index : ℕ) → (w.seat k).phase ≡ Runs why (Clear rows index) → index < w.layout.config.indexes

-- a walk is within the table, and a birth era is one of the clock's
abbrev pub GivesWalks : World → Type 0
GivesWalks w = (k : ℕ) (why : Why) (birth : ℕ) (walk : Walk) → (w.seat k).phase ≡ Runs why (Allocate (ClaimSlot birth walk)) → walk.slot ≤ w.layout.config.slots

abbrev pub GivesBirths : World → Type 0
GivesBirths w =
    (k : ℕ) (why : Why) (birth slot : ℕ)
    → (w.seat k).phase ≡ Runs why (Allocate (StoreLife birth slot))
    → (1 ≤ birth) × (birth ≤ w.mem Clock)

-- a link is null or leads to a row
abbrev pub GivesLinks : World → Type 0
GivesLinks w = (root : Root) → w.mem (link_place root) ≤ w.layout.config.slots + 1
