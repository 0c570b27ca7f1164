-- What a record says of rows: which of them are taken, which are in the list of a seat, and which a seat has cut and not retired.
use Rattle.std.specs.Prelude.{Bool, false, true, ℕ, ◌==◌, ◌≡◌, List}
use Rattle.inv_all.specs.rows.Rows.Status.{Born, Claimed, Cut, Free, InQueue, Linked, Listed, Sealed}
use Rattle.inv_all.specs.rows.Rows.{Status, View, is_taken}
use Rattle.laws.specs.records.Record.{Past}
use Rattle.law_reuse.specs.Answers.{PlacesSay}
use Rattle.inv_all.specs.model.World.{World, list_in}
use Rattle.laws.specs.Lists.{list_of}
use Rattle.laws.specs.StateAt.{cut_at, retired_at, taken_at}
use Rattle.inv_all.specs.rows.Agree.{Agree}
use Rattle.inv_all.specs.history.History.{Item, record_of, world_of}
use Rattle.laws.specs.words.declared.layout.Layout.{Layout}
use Rattle.laws.specs.words.Place.{is_valid}

-- the row is in a list
abbrev pub is_listed : Status → Bool
is_listed Free = false
is_listed (Claimed by) = false
is_listed (Born by) = false
is_listed (Linked bucket) = false
is_listed InQueue = false
is_listed (Cut by) = false
is_listed (Sealed by retire) = false
is_listed (Listed by retire) = true

-- the seat has cut the row, and not retired it
abbrev pub is_cut : ℕ → Status → Bool
is_cut i Free = false
is_cut i (Claimed by) = false
is_cut i (Born by) = false
is_cut i (Linked bucket) = false
is_cut i InQueue = false
is_cut i (Cut by) = i == by
is_cut i (Sealed by retire) = i == by
is_cut i (Listed by retire) = false

-- the record says of the rows what is so in the World: which are taken and which retired; the list that is each seat's own, entry by
-- entry, which seats have left, and whose lists are taken over; and whatever row a seat has cut and not retired, it has told so
pub record Shows (w : World) (v : View) (p : Past) : Type 0 where
  pub taken : (s : ℕ) → taken_at w.layout.config.slots s p ≡ is_taken (v.status s)
  pub retired : (s : ℕ) → retired_at s p ≡ is_listed (v.status s)
  pub lists : (k : ℕ) → list_of k p ≡ list_in w k
  pub places : PlacesSay w.mem p
  pub cuts : (k s : ℕ) → is_cut k (v.status s) ≡ true → cut_at k s p ≡ true

-- with the rows as the words show them
pub record Shown (w : World) (p : Past) : Type 0 where
  pub rows : View
  pub agree : Agree w rows
  pub shows : Shows w rows p

-- so after each history, whatever calls begin and whichever seats make their steps
abbrev pub RecordShows : Type 0
RecordShows = (layout : Layout) (items : List Item) → is_valid layout ≡ true → Shown (world_of layout items) (record_of layout items)
