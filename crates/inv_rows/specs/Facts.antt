-- What the code of a seat's step may rest on, because of what is known of the rows.
use Rattle.std.specs.Prelude.{Bool, ℕ, ◌≡◌, ◌<◌, ◌≤◌, ◌+◌, ◌==◌, true, false, slice_get, Some, List, ◌++◌, length}
use Rattle.std.specs.List.{IsDistinct, list_any}
use Rattle.wfe_core.specs.words.Place.Place.{Head, Tail, Life, Row}
use Rattle.wfe_core.specs.defs.declared.call.Answer.{Answer}
use Rattle.wfe_core.specs.defs.declared.lifetime.Lifetime.{Lifetime}
use Rattle.wfe_core.specs.CallReady.{slots_of, RetireFits}
use Rattle.wfe_core.specs.Phases.{Base}
use Rattle.wfe_core.specs.Phases.RetireAt.{LoadLife}
use Rattle.wfe_core.specs.Phases.Base.{Retire}
use Rattle.wfe_core.specs.Calls.{Why, Retires, AfterScan, GiveBack, Runs, Scans, Works, Keeping, TakeList}
use Rattle.wfe_core.specs.World.{World, step, is_busy, is_here, list_in, offered, finds}
use Rattle.inv_rows.specs.Rows.{Status, View}
use Rattle.inv_rows.specs.Rows.Status.{Free, Claimed, Born, Linked, InQueue, Cut, Sealed, Listed}
use Rattle.inv_rows.specs.Agree.{Agree, RowsNeeds, rows_after}
use Rattle.inv_rows.specs.Queue.{Line, in_queue}
use Rattle.inv_rows.specs.Chain.{Both, QueueNeeds, line_after}

-- a list in which no row is twice, and each row is one of the table's
pub record Listing (slots : ℕ) (list : List Lifetime) : Type 0 where
  pub apart : IsDistinct ◌==◌ (slots_of list)
  pub below : (slot : ℕ) → list_any (◌==◌ slot) (slots_of list) ≡ true → slot < slots + 1
  pub short : length list ≤ slots + 1

pub record SeatShows (w : World) (k : ℕ) : Type 0 where
  -- a busy seat has not left, and the list that it keeps is its own
  pub here : is_busy w k ≡ true → is_here w k ≡ true
  pub own : is_busy w k ≡ true → list_in w k ≡ (w.seat k).desk.list
  -- no row is twice in the seat's list, and each is one of the table's
  pub apart : IsDistinct ◌==◌ (slots_of (list_in w k))
  pub below : (slot : ℕ) → list_any (◌==◌ slot) (slots_of (list_in w k)) ≡ true → slot < w.layout.config.slots + 1
  pub kept : is_busy w k ≡ true → Listing w.layout.config.slots (w.seat k).desk.list
  -- nor in the list that it has once it has taken another over
  pub gains : (place : ℕ) → (w.seat k).phase ≡ Works (Keeping (TakeList place)) → finds w k ≡ 1 → Listing w.layout.config.slots ((w.seat k).desk.list ++ (offered w k).desk.gift)
  -- a row that is being retired is not on it, and its lifetime was stored
  pub retires : (answer : Answer) (base : Base) → (w.seat k).phase ≡ Runs (Retires answer) base → RetireFits base (w.seat k).desk
  pub lives : (why : Why) (slot : ℕ) → (w.seat k).phase ≡ Runs why (Retire (LoadLife slot)) → 0 < w.mem (Life slot)
  -- a scan gives back the entry at its place
  pub backs : (later : AfterScan) (place slot : ℕ) → (w.seat k).phase ≡ Scans later (GiveBack place slot) → slice_get (slots_of (w.seat k).desk.list) place ≡ Some slot

abbrev pub RowsShow : Type 0
RowsShow = (w : World) (v : View) (k : ℕ) → Agree w v → SeatShows w k

-- the queue gives what the rows need of it
abbrev pub QueueShows : Type 0
QueueShows = (w : World) (i : ℕ) (v : View) (l : Line) → QueueNeeds w i v l → Both w v l → RowsNeeds w i v

-- a row that was in the queue since it was claimed last stays so until it is given back: where it was at most the head it
-- is so still, and a next link that is not null stays
pub record RowStays (w : World) (i : ℕ) (v : View) (l : Line) (s : ℕ) : Type 0 where
  pub lined : (line_after w i l).lined s ≡ true
  pub heads : (in_queue (v.status s) ≡ true → v.head ≡ s + 1) → in_queue ((rows_after w i v).status s) ≡ true → (rows_after w i v).head ≡ s + 1
  pub next : (link : ℕ) → w.mem (Row s 0) ≡ link → 0 < link → (step w i).mem (Row s 0) ≡ link

abbrev pub LinedStays : Type 0
LinedStays =
    (w : World) (i : ℕ) (v : View) (l : Line) (s : ℕ) → QueueNeeds w i v l → Both w v l
    → ((later : AfterScan) (place slot : ℕ) → (w.seat i).phase ≡ Scans later (GiveBack place slot) → (s == slot) ≡ false)
    → l.lined s ≡ true → RowStays w i v l s

-- the rows of the head and of the tail are in the queue
pub record EndsLined (w : World) (v : View) (l : Line) (s : ℕ) : Type 0 where
  pub head : w.mem Head ≡ s + 1 → l.lined s ≡ true
  pub tail : w.mem Tail ≡ s + 1 → l.lined s ≡ true
  pub first : w.mem Head ≡ s + 1 → v.head ≡ s + 1

abbrev pub QueueEnds : Type 0
QueueEnds = (w : World) (v : View) (l : Line) (s : ℕ) → Both w v l → EndsLined w v l s

abbrev pub is_born_by : ℕ → Status → Bool
is_born_by seat Free = false
is_born_by seat (Claimed by) = false
is_born_by seat (Born by) = by == seat
is_born_by seat (Linked bucket) = false
is_born_by seat InQueue = false
is_born_by seat (Cut by) = false
is_born_by seat (Sealed by retire) = false
is_born_by seat (Listed by retire) = false

-- the words of a row, but for its next link, are changed by no step but those of the seat that has it in hand and unlinked
abbrev pub RowWordsStay : Type 0
RowWordsStay =
    (w : World) (i : ℕ) (v : View) (s place : ℕ) → Agree w v → (place == 0) ≡ false → is_born_by i (v.status s) ≡ false
    → (step w i).mem (Row s place) ≡ w.mem (Row s place)
