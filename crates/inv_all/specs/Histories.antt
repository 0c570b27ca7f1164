-- Each World that a history comes to has the invariant.
use Rattle.std.specs.Prelude.{ℕ, ◌≡◌, ◌<◌, true, List}
use Rattle.inv_ends.specs.model.words.Place.{is_valid}
use Rattle.inv_ends.specs.model.words.declared.layout.Layout.{Layout}
use Rattle.inv_ends.specs.model.MayStep.{MayStep}
use Rattle.inv_ends.specs.history.History.{Item, world_of}
use Rattle.inv_all.specs.Inv.{Inv}

-- whatever calls begin and whichever seats make their steps
abbrev pub InvReached : Type 0
InvReached = (layout : Layout) (items : List Item) → is_valid layout ≡ true → Inv (world_of layout items)

-- so the code of each seat may make its next step
abbrev pub ReachedReady : Type 0
ReachedReady = (layout : Layout) (items : List Item) (i : ℕ) → is_valid layout ≡ true → i < layout.config.seats → MayStep (world_of layout items) i
