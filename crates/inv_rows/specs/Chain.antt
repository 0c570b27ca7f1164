-- The queue in a World, what a step owes to the other parts of the invariant for it, and that steps keep it.
use Rattle.std.specs.Prelude.{ℕ, ◌≡◌, ◌≤◌, ◌<◌, ◌+◌, ◌==◌, Bool, true, false}
use Rattle.wfe_core.specs.words.Place.{Place, is_valid}
use Rattle.wfe_core.specs.words.Place.Place.{Head, Tail, Row}
use Rattle.wfe_core.specs.words.declared.layout.Layout.{Layout}
use Rattle.wfe_core.specs.defs.declared.call.Call.{Call}
use Rattle.wfe_core.specs.declared.ends.ProtectEnd.TheVariants as protect_ends
use Rattle.wfe_core.specs.Phases.{Base, Walk, Outcome, Ends, Protected, Aim, ProtectAt}
use Rattle.wfe_core.specs.Phases.AllocateAt.{ClaimSlot, StoreLife}
use Rattle.wfe_core.specs.Phases.Base.{Allocate, Protect}
use Rattle.wfe_core.specs.Posts.{counted}
use Rattle.wfe_core.specs.Machine.{after}
use Rattle.wfe_core.specs.Calls.{Why, EnqueueKept, Enqueues, Dequeues, Opens, FollowsHead, AfterScan, GiveBack, Phase, Runs, Scans}
use Rattle.wfe_core.specs.World.{World, start, step, begin, finds}
use Rattle.wfe_core.specs.defs.declared.event.Root.{Root}
use Rattle.inv_rows.specs.Follow.{AnswersFit}
use Rattle.inv_rows.specs.Rows.{View}
use Rattle.inv_rows.specs.Agree.{Agree, rows_after, first_rows}
use Rattle.inv_rows.specs.Queue.{Line, InLine, Walks, in_queue, is_past, stands_on, line_move, moved_line}

abbrev pub queue_of : View → ℕ → Bool
queue_of v s = in_queue (v.status s)

abbrev pub past_of : View → ℕ → Bool
past_of v s = is_past (v.status s)

abbrev pub next_of : (Place → ℕ) → ℕ → ℕ
next_of mem s = mem (Row s 0)

-- the queue's words and what no word shows of it agree with the rows, and so do the seats that work on it
pub record Queue (w : World) (v : View) (l : Line) : Type 0 where
  pub line : InLine (queue_of v) (past_of v) l (next_of w.mem) v.head (w.mem Tail)
  pub walks : (k : ℕ) → Walks (w.seat k).phase (queue_of v) l (next_of w.mem) v.head (w.mem Tail)

-- what a step of a seat needs of the other parts, where `outcome` is that of its machine, if one runs
pub record PhaseNeeds (slots : ℕ) (mem : Place → ℕ) (v : View) (l : Line) (phase : Phase) (outcome : Base → Outcome) (found : ℕ) : Type 0 where
  -- a walk stays within the table, and the birth era that is stored is positive
  pub walks : (why : Why) (birth : ℕ) (walk : Walk) → phase ≡ Runs why (Allocate (ClaimSlot birth walk)) → walk.slot ≤ slots
  pub births : (why : Why) (birth slot : ℕ) → phase ≡ Runs why (Allocate (StoreLife birth slot)) → 0 < birth
  -- a row that was protected from the tail or the head was in the queue since it was claimed last
  pub tails : (kept : EnqueueKept) (base : Base) (slot era : ℕ) → phase ≡ Runs (Opens (Enqueues kept)) base → outcome base ≡ Ends (Protected (protect_ends.Held slot era)) → l.lined slot ≡ true
  pub heads : (base : Base) (slot era : ℕ) → phase ≡ Runs (Opens Dequeues) base → outcome base ≡ Ends (Protected (protect_ends.Held slot era)) → l.lined slot ≡ true
  -- and where that row is still in the queue, it is still the head
  pub leads : (base : Base) (slot era : ℕ) → phase ≡ Runs (Opens Dequeues) base → outcome base ≡ Ends (Protected (protect_ends.Held slot era)) → in_queue (v.status slot) ≡ true → mem Head ≡ slot + 1
  -- an answer that the seat's request has, where it follows the head's next link, is that link or null
  pub answers :
      (head tail : ℕ) (aim : Aim) (index : ℕ) (root : Root) (steps : ℕ) (at : ProtectAt) → phase ≡ Runs (FollowsHead head tail) (Protect aim index root steps at)
      → AnswersFit at found (mem (Row head 0))

pub record QueueNeeds (w : World) (i : ℕ) (v : View) (l : Line) : Type 0 where
  pub own : PhaseNeeds w.layout.config.slots w.mem v l (w.seat i).phase (λ base. (after base (counted (w.seat i).post) (finds w i)).outcome) (finds w i)
  -- no seat works on a queue's row that is given back
  pub backs : (later : AfterScan) (place slot k : ℕ) → (w.seat i).phase ≡ Scans later (GiveBack place slot) → stands_on (w.seat k).phase slot ≡ false

abbrev pub line_after : World → ℕ → Line → Line
line_after w i l = moved_line l (line_move (w.seat i).phase (finds w i))

-- the dummy alone is in the queue, with number 0
abbrev pub first_line : Layout → Line
first_line layout = record { number = λ s. 0; lined = λ s. s == layout.config.slots }

abbrev pub QueueStart : Type 0
QueueStart = (layout : Layout) → is_valid layout ≡ true → Queue (start layout) (first_rows layout) (first_line layout)

abbrev pub QueueBegin : Type 0
QueueBegin = (w : World) (i : ℕ) (call : Call) (v : View) (l : Line) → Queue w v l → Queue (begin w i call) v l

-- a step keeps the rows and the queue, and needs of the other parts no more than QueueNeeds
pub record Both (w : World) (v : View) (l : Line) : Type 0 where
  pub rows : Agree w v
  pub queue : Queue w v l

abbrev pub QueueKept : Type 0
QueueKept = (w : World) (i : ℕ) (v : View) (l : Line) → QueueNeeds w i v l → Both w v l → Both (step w i) (rows_after w i v) (line_after w i l)
