-- Each call ends within the steps of its own that it has left, in each history.
use Rattle.std.specs.Prelude.{ℕ, ◌≡◌, ◌<◌, ◌+◌, ◌^◌, ◌==◌, true, false, if◌then◌else◌, List, [], ◌∷◌, ◌++◌}
use Rattle.inv_ends.specs.model.words.Place.{is_valid}
use Rattle.inv_ends.specs.model.words.declared.layout.Layout.{Layout}
use Rattle.inv_ends.specs.model.Rest.{rest}
use Rattle.inv_ends.specs.model.World.{is_busy}
use Rattle.inv_ends.specs.history.History.{Item, Begins, Steps, world_of}

-- how many of these items are steps of a seat
abbrev pub is_own : ℕ → Item → ℕ
is_own i (Begins k call) = 0
is_own i (Steps k) = if i == k then 1 else 0

abbrev pub steps_in : ℕ → List Item → ℕ
steps_in i [] = 0
steps_in i (item ∷ items) = is_own i item + steps_in i items

-- somewhere among the later items the seat has no call under way
pub record EndsAmong (layout : Layout) (items more : List Item) (i : ℕ) : Type 0 where
  pub first : List Item
  pub last : List Item
  pub cut : first ++ last ≡ more
  pub ends : is_busy (world_of layout (items ++ first)) i ≡ false

-- the items are any: calls that begin and steps of whichever seats; no call has 2 ^ 62 steps left
pub record CallFinishes (layout : Layout) (items : List Item) (i : ℕ) : Type 0 where
  pub few : rest (world_of layout items) i < 2 ^ 62
  pub ends : (more : List Item) → rest (world_of layout items) i < steps_in i more → EndsAmong layout items more i

abbrev pub CallsFinish : Type 0
CallsFinish = (layout : Layout) (items : List Item) (i : ℕ) → is_valid layout ≡ true → i < layout.config.seats → CallFinishes layout items i
