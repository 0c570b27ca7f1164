-- No row is used again while it stands at an index of a seat: in no history does a step of any seat give it, give it up or
-- give it back.
use Rattle.std.specs.Prelude.{Bool, List, false, ℕ, ◌||◌, [], ◌∷◌, Some, ◌≡◌, true}
use Rattle.laws.specs.defs.declared.event.Event.{Event}
use Rattle.laws.specs.NoReuse.{is_reuse}
use Rattle.inv_all.specs.Inv.{Inv}
use Rattle.inv_all.specs.model.World.{World, told_in}
use Rattle.inv_all.specs.model.Posts.{stands}
use Rattle.inv_all.specs.history.History.{Item, world_of}
use Rattle.laws.specs.words.declared.layout.Layout.{Layout}
use Rattle.laws.specs.words.Place.{is_valid}

-- one of these events says so
abbrev pub reuses : ℕ → List Event → Bool
reuses s [] = false
reuses s (event ∷ told) = is_reuse s event || reuses s told

-- of each World that has the invariant
abbrev pub NoReuse : Type 0
NoReuse = (w : World) (i k j s : ℕ) → Inv w → stands (w.seat k).post j ≡ Some s → reuses s (told_in w i) ≡ false

-- so of each World that a history comes to
abbrev pub NeverReused : Type 0
NeverReused =
    (layout : Layout) (items : List Item) (i k j s : ℕ)
    → is_valid layout ≡ true
    → stands ((world_of layout items).seat k).post j ≡ Some s
    → reuses s (told_in (world_of layout items) i) ≡ false
