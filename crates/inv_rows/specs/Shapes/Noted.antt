-- How many rows a call sends back: together with those that are left on the list no more than the rows, and one more once
-- the call has retired one.
use Rattle.std.specs.Prelude.{ℕ, ◌≡◌, ◌≤◌, ◌+◌, Bool, true, false, List, [], ◌∷◌, length}
use Rattle.wfe_core.specs.defs.declared.event.Event.{Event}
use Rattle.wfe_core.specs.defs.declared.event.Event.TheVariants as events
use Rattle.wfe_core.specs.Calls.{AfterScan, Answered, Repeated, Counted, Why, Opens, FollowsHead, Fills, ClearsNext, Clears, Finishes, GivesUp, Retires, Tidies, Advances, Releases, Keeping, TakeList, Phase, Idle, Runs, Scans, Works}
use Rattle.wfe_core.specs.Desks.{Desk}
use Rattle.wfe_core.specs.Locals.{Local}
use Rattle.wfe_core.specs.World.{World}

-- a row that went back
abbrev pub back_of : Event → ℕ
back_of (events.Back slot) = 1
back_of event = 0

abbrev pub backs : List Event → ℕ
backs [] = 0
backs (event ∷ told) = back_of event + backs told

-- the rows on the list and those that had gone back
abbrev pub size : Desk → ℕ
size desk = length desk.list + length desk.notes.back

-- the call has retired a row, where it retires one
abbrev pub later_more : AfterScan → ℕ
later_more (Answered answer) = 1
later_more (Repeated task) = 0
later_more Counted = 0

abbrev pub why_more : Why → ℕ
why_more (Opens task) = 0
why_more (FollowsHead head tail) = 0
why_more (Fills task) = 0
why_more (ClearsNext next) = 0
why_more (Clears task next) = 0
why_more (Finishes task next) = 0
why_more (GivesUp answer) = 0
why_more (Retires answer) = 0
why_more (Tidies later) = later_more later
why_more Advances = 0
why_more (Releases let_go) = 0

abbrev pub more : Phase → ℕ
more Idle = 1
more (Runs why base) = why_more why
more (Scans later at) = later_more later
more (Works work) = 0

-- the next step takes over a list
abbrev pub takes : Phase → Bool
takes (Works (Keeping (TakeList place))) = true
takes phase = false

-- the rows that the present or last call has sent back, and those on the list; none went back before a list is taken over
pub record NotedIn (slots : ℕ) (l : Local) : Type 0 where
  pub few : size l.desk ≤ slots + 1 + more l.phase
  pub none : takes l.phase ≡ true → length l.desk.notes.back ≡ 0

pub record Noted (w : World) : Type 0 where
  pub seats : (k : ℕ) → NotedIn w.layout.config.slots (w.seat k)
