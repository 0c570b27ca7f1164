-- That a handle's seat stands where a history leaves it, and that its step finds what that history gives.
use Rattle.std.specs.Prelude.{List, true, ℕ, ◌++◌, ◌<◌, ◌≡◌}
use Rattle.wfe_core.specs.words.Place.{is_valid}
use Rattle.wfe_core.specs.words.declared.layout.Layout.{Layout}
use Rattle.wfe_core.specs.Locals.{Local}
use Rattle.wfe_core.specs.World.{finds}
use Rattle.law_reuse.specs.history.History.{Item, world_of}
use Rattle.wfe_drive_rule.specs.Handles.{IsSeated}
use Rattle.wfe_drive_rule.specs.Moves.{Told}
use Rattle.wfe_drive_rule.specs.Views.{Handle, View, own, standing}

-- this history comes to a World in which a seat of a table with a valid setting is at this state
pub record ComesTo (items : List Item) (local : Local) : Type 0 where
  pub valid : is_valid local.post.layout ≡ true
  pub seat : local.post.seat < local.post.layout.config.seats
  pub stands : (world_of local.post.layout items).seat local.post.seat ≡ local

-- there the seat's operation finds this
pub record Finds (items : List Item) (local : Local) (found : ℕ) : Type 0 where
  pub comes : ComesTo items local
  pub found_is : found ≡ finds (world_of local.post.layout items) local.post.seat

-- a history that begins with the past of the handle's seat
pub record StandsOn (handle : Handle) : Type 0 where
  pub more : List Item
  pub comes : ComesTo ((own handle.0).past ++ more) (standing handle)

-- where each seated handle stands
abbrev pub HandlesStand : Type 0
HandlesStand = (layout : Layout) (slot : ℕ) (handle : Handle) → IsSeated layout slot handle → StandsOn handle

-- what a step of a seated handle tells
abbrev pub StepsTell : Type 0
StepsTell = (layout : Layout) (slot : ℕ) (handle : Handle) (found : ℕ) (view : View) (told : Told layout handle found view) → IsSeated layout slot handle → Finds told.items (standing handle) found
