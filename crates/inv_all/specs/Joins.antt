-- The list of a seat that makes no call goes to the end of that of another such seat, and no word changes.
use Rattle.std.specs.Prelude.{ℕ, ◌≡◌, ◌≤◌, ◌==◌, false, if◌then◌else◌, List, [], ◌∷◌, ◌++◌}
use Rattle.inv_ends.specs.model.words.Place.Place.{PlaceOf}
use Rattle.inv_ends.specs.model.defs.declared.lifetime.Lifetime.{Lifetime}
use Rattle.inv_ends.specs.model.CallReady.{NotListed}
use Rattle.inv_ends.specs.model.Desks.{Desk, no_notes}
use Rattle.inv_ends.specs.model.World.{World, is_busy}
use Rattle.inv_ends.specs.rows.Facts.{Listing}
use Rattle.inv_all.specs.Inv.{Inv}

-- the desk of seat k, where the list goes from one seat to another; the notes of the latter's last call are cleared
abbrev pub joined_desk : List Lifetime → (from to k : ℕ) → Desk → Desk
joined_desk gift from to k desk =
    record desk {
      list = if k == from then [] else (if k == to then desk.list ++ gift else desk.list);
      notes = if k == to then no_notes else desk.notes;
    }

abbrev pub joined : World → (from to : ℕ) → World
joined w from to = record w { seat = λ k. record (w.seat k) { desk = joined_desk (w.seat from).desk.list from to k (w.seat k).desk } }

-- both lists together have each row once at most, so no more than the table's
abbrev pub JoinsFit : Type 0
JoinsFit =
    (w : World) (from to : ℕ) → is_busy w from ≡ false → is_busy w to ≡ false → (from == to) ≡ false
    → w.mem (PlaceOf from) ≡ 0 → w.mem (PlaceOf to) ≡ 0 → Inv w
    → Listing w.layout.config.slots ((w.seat to).desk.list ++ (w.seat from).desk.list)

abbrev pub InvJoins : Type 0
InvJoins =
    (w : World) (from to : ℕ) → is_busy w from ≡ false → is_busy w to ≡ false → (from == to) ≡ false
    → w.mem (PlaceOf from) ≡ 0 → w.mem (PlaceOf to) ≡ 0 → Inv w
    → Inv (joined w from to)

-- so one life after the other can be added
pub record Adds (slots : ℕ) (before : List Lifetime) (life : Lifetime) : Type 0 where
  pub slot : life.slot ≤ slots
  pub apart : NotListed life.slot before

abbrev pub ListingAdds : Type 0
ListingAdds = (slots : ℕ) (before more : List Lifetime) (life : Lifetime) → Listing slots (before ++ life ∷ more) → Adds slots before life
