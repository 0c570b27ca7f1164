-- Pieces of calls that code makes without the call's machine: a machine of the call's in a loop of its own, a protection, and the end of
-- a round. Each holds of whatever the call does before and after it, so it serves all calls.
use Rattle.std.specs.Prelude.{IsSome, List, None, Option, Some, [], ℕ, ◌-◌, ◌∷◌, ◌≡◌, ◌≤◌, true}
use Rattle.wfe_core.specs.defs.declared.call.Answer.{Answer}
use Rattle.wfe_core.specs.defs.declared.call.ClockMove.{ClockMove}
use Rattle.wfe_core.specs.defs.declared.event.Event.{Event}
use Rattle.wfe_core.specs.defs.declared.event.Event.TheVariants as events
use Rattle.wfe_core.specs.defs.declared.event.Root.{Root}
use Rattle.wfe_core.specs.defs.declared.event.Root.TheVariants as roots
use Rattle.wfe_core.specs.defs.declared.lifetime.Lifetime.{Lifetime}
use Rattle.wfe_core.specs.Allocate.{after_claim_slot, walk_from}
use Rattle.wfe_core.specs.Calls.{AfterScan, Again, Answering, Answers, CallTurn, MakeRoom, Next, Phase, Retiring, Task, Why}
use Rattle.wfe_core.specs.DeskHeld.{desk_of}
use Rattle.wfe_core.specs.Desks.{Desk, noting}
use Rattle.wfe_core.specs.Locals.{Local}
use Rattle.wfe_core.specs.Phases.{Alone, Base, Endless, Ending, Turn}
use Rattle.wfe_core.specs.Phases.Base.{Allocate, Move}
use Rattle.wfe_core.specs.Posts.{with_row}
use Rattle.wfe_core.specs.Rounds.{clearing, clearing_next, index_of, kept_row, root_of}
use Rattle.wfe_core.specs.Scan.{giving_back, scanned, unmet_from}
use Rattle.wfe_core.specs.Steps.{after_move, resume, run_turn}
use Rattle.wfe_core.specs.words.Schemes.{has_one_interval}
use Rattle.wfe_core.specs.declared.desk.Desk.{Desk as HeldDesk}
use Rattle.wfe_core.specs.declared.ends.ProtectEnd.{ProtectEnd}
use Rattle.wfe_core.specs.declared.ends.ProtectEnd.TheVariants as protect_ends
use Rattle.wfe_core.specs.declared.op.Op.{Op}
use Rattle.wfe_core.specs.declared.post.Post.{Post}
use Rattle.wfe_drive_words.specs.drive_cells.Unit.{SeatView, kept_desk, seat_after}
use Rattle.wfe_drive_words.specs.Path.{Closes, Leads, Trial}

-- a seat at a phase
abbrev pub seat_of : Phase → Post → Desk → SeatView
seat_of phase post desk = record { phase = phase; post = post; desk = kept_desk desk }

-- the seat made steps, of which the last one took this turn: its call goes on, or is answered
pub record TurnsTo (at_old at_new : Local → Type 0) (stands_old stands_new : List (Op × ℕ) → Type 0) (old : SeatView) (t : CallTurn) : Type 0 where
  pub leads : Leads at_old at_new stands_old stands_new old (seat_after t)
  pub closes : (answer : Answer) → t.outcome ≡ Answers answer → Closes answer at_old at_new stands_old stands_new old (seat_after t)

-- a machine of the seat's call has ended so, in a step that told these events; they are noted, and then comes what comes after it
pub record EndsSo (at_old at_new : Local → Type 0) (stands_old stands_new : List (Op × ℕ) → Type 0) (old : SeatView) (why : Why) (ending : Ending) (post : Post) (held : HeldDesk) : Type 0 where
  pub before : Desk
  pub told : List Event
  pub noted : desk_of held ≡ noting before told
  pub turns : TurnsTo at_old at_new stands_old stands_new old (resume why ending post before told)

-- the same where it is known that the call goes on
pub record LeadsSo (at_old at_new : Local → Type 0) (stands_old stands_new : List (Op × ℕ) → Type 0) (old : SeatView) (why : Why) (ending : Ending) (post : Post) (held : HeldDesk) : Type 0 where
  pub before : Desk
  pub told : List Event
  pub noted : desk_of held ≡ noting before told
  pub leads : Leads at_old at_new stands_old stands_new old (seat_after (resume why ending post before told))

-- a tidying is over, with this outcome of its move
pub record ScansSo (at_old at_new : Local → Type 0) (stands_old stands_new : List (Op × ℕ) → Type 0) (old : SeatView) (later : AfterScan) (clock : ClockMove) (post : Post) (held : HeldDesk) : Type 0 where
  pub before : Desk
  pub told : List Event
  pub noted : desk_of held ≡ noting before told
  pub turns : TurnsTo at_old at_new stands_old stands_new old (scanned (after_move later clock) post before told)

-- the event of a retirement
abbrev pub retire_told : Lifetime → List Event
retire_told life = events.Retire life.slot life.birth life.retire ∷ []

-- the end of a protection that holds this row, or none
abbrev pub end_of : Option ℕ → (era : ℕ) → ProtectEnd
end_of None era = protect_ends.Null
end_of (Some slot) era = protect_ends.Held slot era

-- a root that is no row's next link
abbrev pub Outer : Root → Type 0
Outer (roots.Bucket bucket) = Unit {0}
Outer roots.Head = Unit {0}
Outer roots.Tail = Unit {0}
Outer (roots.Next slot) = ⊥

-- a round ends: the task's index is to be cleared; and of a dequeue index 1 before it
abbrev pub clearing_at : Task → Next → Post → Desk → SeatView
clearing_at task next post desk = seat_after (clearing task next post (kept_desk desk) [])

abbrev pub clearing_next_at : Next → Post → Desk → SeatView
clearing_next_at next post desk = seat_after (clearing_next next post (kept_desk desk) [])

-- what stands at the index once a root was protected that has this link
pub record IsStood (index link : ℕ) (old new : Post) (held : Option ℕ) : Type 0 where
  pub null : link ≡ 0 → (held ≡ None) × (new ≡ old)
  pub row : (link ≡ 0 → ⊥) → (held ≡ Some (link - 1)) × (new ≡ with_row old index (link - 1)) × (link - 1 ≤ old.layout.config.slots)

-- the protection of a root that has made so many steps
abbrev pub asked_trial : Why → Desk → (made steps : ℕ) → Trial
asked_trial why desk made steps = record { aim = Alone; why = why; desk = desk; made = made; tries = Endless; steps = steps }

-- no other round comes at once
abbrev pub Finishing : Next → Type 0
Finishing Again = ⊥
Finishing MakeRoom = Unit {0}
Finishing (Answering answer) = Unit {0}
Finishing (Retiring slot answer) = Unit {0}

-- where the scheme has one interval no row is kept: so the interval ends by a step
abbrev pub IsFree : Post → Type 0
IsFree post = has_one_interval post.layout.config.scheme ≡ true → kept_row post ≡ None

-- where the scheme has one interval it stands
abbrev pub IsSpanned : Post → Type 0
IsSpanned post = has_one_interval post.layout.config.scheme ≡ true → IsSome post.span

-- a task protects this root, at index 0
abbrev pub Protects : Task → Root → Post → Type 0
Protects task root post = (index_of task ≡ 0) × (root_of task post ≡ root)

-- an allocation has set a claim bit at the seat's cursor, and found this word; that step is counted
abbrev pub claimed_by : (birth found : ℕ) → Post → Turn
claimed_by birth found post = after_claim_slot birth (walk_from post.layout.config.slots post.cursor) post found

-- the seat after that step
abbrev pub claimed_at : Why → (birth found : ℕ) → Post → Desk → SeatView
claimed_at why birth found post desk = seat_after (run_turn why desk (claimed_by birth found post))

-- a walk over the rows, or a move of the clock, changes nothing of what stands
abbrev pub IsWalk : Base → Type 0
IsWalk (Allocate at) = Unit {0}
IsWalk (Move at) = Unit {0}
IsWalk base = ⊥

-- a scan has read all guards: the first row from a place of the list on that may go back is to, or the scan is over
abbrev pub giving_at : AfterScan → (place : ℕ) → Post → Desk → CallTurn
giving_at later place post desk = giving_back later post desk [] (unmet_from desk place)
