-- How machines end, in each World that a history comes to: with what they have seen, hold or answered.
use Rattle.std.specs.Prelude.{ℕ, ◌≡◌, ◌≤◌, ◌<◌, true, false, List}
use Rattle.std.specs.List.{list_any}
use Rattle.inv_ends.specs.model.words.Place.{is_valid}
use Rattle.inv_ends.specs.model.words.Place.Place.{Clock}
use Rattle.inv_ends.specs.model.words.declared.layout.Layout.{Layout}
use Rattle.inv_ends.specs.model.declared.ends.AllocateEnd.TheVariants as allocate_ends
use Rattle.inv_ends.specs.model.Machine.{after}
use Rattle.inv_ends.specs.model.Posts.{counted}
use Rattle.inv_ends.specs.model.Phases.{Walk, Ends}
use Rattle.inv_ends.specs.model.Phases.AllocateAt.{ClaimSlot}
use Rattle.inv_ends.specs.model.Phases.MoveAt.{ExchangeClock}
use Rattle.inv_ends.specs.model.Phases.Base.{Allocate, Move}
use Rattle.inv_ends.specs.model.Phases.Ending.{Allocated}
use Rattle.inv_ends.specs.model.Calls.{Why, Runs}
use Rattle.inv_ends.specs.model.World.{World, step, finds, told_in}
use Rattle.inv_ends.specs.requests.Views.{View as Asked}
use Rattle.inv_ends.specs.rows.Agree.{Agree, rows_after}
use Rattle.inv_ends.specs.rows.Rows.{View, is_taken}
use Rattle.inv_ends.specs.rows.Rows.RowMove.{Lists}
use Rattle.inv_ends.specs.model.Guards.{own_guard}
use Rattle.inv_ends.specs.covers.Held.{Holds}
use Rattle.inv_ends.specs.history.History.{Item, world_of}
use Rattle.inv_all.specs.Inv.{Inv}
use Rattle.inv_ends.specs.model.defs.Events.{is_held}
use Rattle.inv_ends.specs.Told.{RowWas, move_of}
use Rattle.inv_ends.specs.Moves.{met_after, open_at}
use Rattle.inv_ends.specs.Stands.{is_copied}
use Rattle.inv_ends.specs.Walks.{seen_after}
use Rattle.inv_all.specs.Sights.{Sights, sights_of}

-- of a step of seat i, where rows and requests are these and so much was seen before it
pub record Outcomes (w : World) (i : ℕ) (v : View) (z : Asked) (s : Sights) : Type 0 where
  -- a row that the step sees taken is taken then, and a walk that ends with Full has so seen each row of the table
  pub seen : (slot : ℕ) → slot ≤ w.layout.config.slots → s.rows i slot ≡ false → seen_after w i s.rows i slot ≡ true → is_taken (v.status slot) ≡ true
  pub full : (why : Why) (birth : ℕ) (walk : Walk) (slot : ℕ)
      → (w.seat i).phase ≡ Runs why (Allocate (ClaimSlot birth walk))
      → (after (Allocate (ClaimSlot birth walk)) (counted (w.seat i).post) (finds w i)).outcome ≡ Ends (Allocated allocate_ends.Full)
      → slot ≤ w.layout.config.slots
      → seen_after w i s.rows i slot ≡ true
  -- a request that the step sees pending is pending then, and where a mover comes to exchange the clock none of those that it
  -- saw on its way is pending any more
  pub met : (k tag index : ℕ) → s.requests i k tag index ≡ false → met_after w i s.requests i k tag index ≡ true → open_at tag index (z.deal k) ≡ true
  pub answered : (why : Why) (era k tag index : ℕ)
      → (w.seat i).phase ≡ Runs why (Move (ExchangeClock era))
      → k < w.layout.config.seats
      → s.requests i k tag index ≡ true
      → open_at tag index (z.deal k) ≡ false
  -- a row that the step holds is covered by the guard of its index from then on
  pub held : (j slot : ℕ) → list_any (is_held j slot) (told_in w i) ≡ true → Holds (step w i) (rows_after w i v) (own_guard w.layout.config.scheme i j) slot
  -- so is a row that it copies, by the guard of the index that it is copied to
  pub copied : (f j slot : ℕ) → list_any (is_copied f j slot) (told_in w i) ≡ true → Holds (step w i) (rows_after w i v) (own_guard w.layout.config.scheme i j) slot
  -- a row that it gives was free, one that it tells to be unused or back was its own, and one that it retires is so with a
  -- retire era that was loaded once it was cut, and with the birth era under which it was given last
  pub rows : RowWas (w.mem Clock) i v (move_of w i)
  pub births : (slot birth retire : ℕ) → move_of w i ≡ Lists slot birth retire → s.births slot ≡ birth

pub record Ended (w : World) (i : ℕ) (s : Sights) : Type 0 where
  pub inv : Inv w
  pub agree : Agree w inv.rows
  pub outcomes : Outcomes w i inv.rows inv.asked s

-- whatever calls begin and whichever seats make their steps
abbrev pub MachinesEnd : Type 0
MachinesEnd = (layout : Layout) (items : List Item) (i : ℕ) → is_valid layout ≡ true → i < layout.config.seats → Ended (world_of layout items) i (sights_of layout items)
