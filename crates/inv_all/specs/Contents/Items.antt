-- The contents of the queue in a World: what its rows show, how many values were queued and taken, and what seats have read.
use Rattle.std.specs.Prelude.{ℕ, ◌≡◌, ◌≤◌, ◌<◌, ◌+◌, true, false, length}
use Rattle.inv_ends.specs.model.words.Place.{Place, is_valid}
use Rattle.inv_ends.specs.model.words.Place.Place.{Row}
use Rattle.inv_ends.specs.model.words.declared.layout.Layout.{Layout}
use Rattle.inv_ends.specs.model.defs.declared.call.Call.{Call}
use Rattle.inv_ends.specs.model.Book.{Book}
use Rattle.inv_ends.specs.model.Calls.{AfterScan, GiveBack, Scans}
use Rattle.inv_ends.specs.model.World.{World, start, begin, step}
use Rattle.inv_ends.specs.shapes.Slots.{Slots}
use Rattle.inv_ends.specs.rows.Rows.{View}
use Rattle.inv_ends.specs.rows.Agree.{rows_after, first_rows}
use Rattle.inv_ends.specs.rows.Queue.{Line}
use Rattle.inv_ends.specs.rows.Chain.{Both, QueueNeeds, queue_of, line_after, first_line}
use Rattle.inv_all.specs.Contents.Contents.{Contents}
use Rattle.inv_all.specs.Contents.Stands.{nexts_in}
use Rattle.inv_all.specs.Contents.Reads.{value_under, Reads}

-- a row that was in the queue since it was claimed last shows its number and, but for the dummy, the value queued under it;
-- the last row has the number of all values queued, the head's that of all taken; and there are at most so many
pub record Shown (most : ℕ) (mem : Place → ℕ) (book : Book) (v : View) (l : Line) : Type 0 where
  pub numbers : (s : ℕ) → l.lined s ≡ true → mem (Row s 1) ≡ l.number s
  pub values : (s : ℕ) → l.lined s ≡ true → 0 < l.number s → mem (Row s 2) ≡ value_under book.queued (l.number s)
  pub within : (s : ℕ) → l.lined s ≡ true → l.number s ≤ length book.queued
  pub last : (s : ℕ) → queue_of v s ≡ true → mem (Row s 0) ≡ 0 → l.number s ≡ length book.queued
  pub first : (h : ℕ) → v.head ≡ h + 1 → l.number h ≡ book.taken
  pub room : length book.queued ≤ most

pub record Items (w : World) (v : View) (l : Line) : Type 0 where
  pub rows : Shown w.layout.config.last_version w.mem w.book v l
  pub seats : (k : ℕ) → Reads (w.seat k).phase l w.book.queued

-- what a step of seat i needs of the other parts of the invariant
pub record ItemsNeeds (w : World) (i : ℕ) (v : View) (l : Line) : Type 0 where
  -- the queue's rows, and what the step of them needs in turn
  pub queue : QueueNeeds w i v l
  -- an enqueue that links its row has written its words, and a number is left for it
  pub contents : Contents w v
  pub slots : Slots w
  -- no row that a dequeue has followed is given back
  pub backs : (later : AfterScan) (place slot k : ℕ) → (w.seat i).phase ≡ Scans later (GiveBack place slot) → nexts_in (w.seat k).phase slot ≡ false

abbrev pub ItemsStart : Type 0
ItemsStart = (layout : Layout) → is_valid layout ≡ true → Items (start layout) (first_rows layout) (first_line layout)

abbrev pub ItemsBegin : Type 0
ItemsBegin = (w : World) (i : ℕ) (call : Call) (v : View) (l : Line) → Items w v l → Items (begin w i call) v l

abbrev pub ItemsKept : Type 0
ItemsKept =
    (w : World) (i : ℕ) (v : View) (l : Line) → ItemsNeeds w i v l → Both w v l → Items w v l
    → Items (step w i) (rows_after w i v) (line_after w i l)
