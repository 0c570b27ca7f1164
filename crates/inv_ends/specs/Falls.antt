-- That the steps which a call has left fall at each of its own steps, and rise at no step of another seat.
use Rattle.std.specs.Prelude.{ℕ, ◌≡◌, ◌≤◌, ◌<◌, ◌+◌, ◌^◌, ◌==◌, true, false, length}
use Rattle.inv_rows.specs.words.Place.{is_valid}
use Rattle.inv_rows.specs.words.Place.Place.{Clock}
use Rattle.inv_rows.specs.words.declared.layout.Layout.{Layout}
use Rattle.inv_rows.specs.defs.declared.call.Call.{Call}
use Rattle.inv_rows.specs.defs.declared.event.Root.{Root}
use Rattle.inv_rows.specs.model.Calls.{FollowsHead, Runs}
use Rattle.inv_rows.specs.model.Phases.{Aim}
use Rattle.inv_rows.specs.model.Phases.Base.{Protect}
use Rattle.inv_rows.specs.model.Phases.HazardAt.{CheckLink}
use Rattle.inv_rows.specs.model.Phases.ProtectAt.{ByHazard}
use Rattle.inv_rows.specs.model.Rest.{rest}
use Rattle.inv_rows.specs.model.World.{World, start, begin, step, is_busy, finds}
use Rattle.inv_rows.specs.Shapes.Seats.{Seats}
use Rattle.inv_rows.specs.Shapes.Eras.{Eras}
use Rattle.inv_rows.specs.Shapes.Slots.{Slots, SlotsNeeds}
use Rattle.inv_ends.specs.Losses.{Losses, LossNeeds}

-- what the other parts give: shape, eras and ranges before and after the step, what a scan finds of its list, and that where
-- rows are published the next link of the head's row is the same at both loads
pub record RestNeeds (w : World) (i : ℕ) : Type 0 where
  pub seats : Seats w
  pub eras : Eras w
  pub slots : Slots w
  pub lists : SlotsNeeds w i
  pub eras_next : Eras (step w i)
  pub slots_next : Slots (step w i)
  pub losses : Losses w
  pub follows : (head tail : ℕ) (aim : Aim) (index : ℕ) (root : Root) (steps link : ℕ) → (w.seat i).phase ≡ Runs (FollowsHead head tail) (Protect aim index root steps (ByHazard (CheckLink link))) → (finds w i == link) ≡ true

-- a step that does not end its call leaves fewer steps
abbrev pub RestFalls : Type 0
RestFalls = (w : World) (i : ℕ) → is_valid w.layout ≡ true → RestNeeds w i → is_busy (step w i) i ≡ true → rest (step w i) i + 1 ≤ rest w i

-- a step of another seat leaves no more
abbrev pub RestStays : Type 0
RestStays = (w : World) (i k : ℕ) → (k == i) ≡ false → w.mem Clock ≤ (step w i).mem Clock → rest (step w i) k ≤ rest w k

-- no call has more steps left than this
abbrev pub RestIsSmall : Type 0
RestIsSmall = (w : World) (k : ℕ) → is_valid w.layout ≡ true → Seats w → Slots w → length (w.seat k).desk.list ≤ w.layout.config.slots + 1 → rest w k < 2 ^ 62

-- the losses hold at the start, where a call begins, and over each step
abbrev pub LossesStart : Type 0
LossesStart = (layout : Layout) → Losses (start layout)

abbrev pub LossesBegin : Type 0
LossesBegin = (w : World) (i : ℕ) (call : Call) → Losses w → Losses (begin w i call)

abbrev pub LossesKept : Type 0
LossesKept = (w : World) (i : ℕ) → is_valid w.layout ≡ true → RestNeeds w i → LossNeeds w i → Losses (step w i)
