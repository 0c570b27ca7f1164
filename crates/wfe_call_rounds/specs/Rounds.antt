-- How a round begins and ends, whichever task it is of.
use Rattle.std.specs.Prelude.{ℕ, ◌≡◌, Bool, true, false, List, ◌++◌, Option, Some, None}
use Rattle.wfe_core.specs.words.declared.config.SchemeKind.{SchemeKind}
use Rattle.wfe_core.specs.defs.declared.event.Event.{Event}
use Rattle.wfe_core.specs.defs.declared.event.Root.{Root}
use Rattle.wfe_core.specs.declared.ends.ProtectEnd.{ProtectEnd}
use Rattle.wfe_core.specs.declared.post.Post.{Post}
use Rattle.wfe_core.specs.Machine.{after}
use Rattle.wfe_core.specs.Phases.{Base, Outcome, Goes, Ends}
use Rattle.wfe_core.specs.Phases.Ending.{Done, Protected, Followed, Allocated, Retired, Clocked}
use Rattle.wfe_core.specs.Calls.{Task, Next, Again, MakeRoom, Answering, Retiring, Phase, Runs, Clears, Finishes, CallTurn, goes_on}
use Rattle.wfe_core.specs.Desks.{Desk}
use Rattle.wfe_core.specs.Rounds.{begin_base, protect_base, clear_base, clear_post, clear_told, finish_base, closed}
use Rattle.wfe_iface.specs.Schemes.{RoundPhases}
use Rattle.wfe_call_rounds.specs.declared.opening.Opening.{Opening}
use Rattle.wfe_call_rounds.specs.declared.opening.Opening.TheVariants as opens
use Rattle.wfe_call_rounds.specs.declared.closing.Closing.{Closing}
use Rattle.wfe_call_rounds.specs.declared.closing.Closing.TheVariants as closes

-- the phase of a round's first machines
abbrev pub opening_base : {B P : Type 0} → (B → Base) → (P → Base) → Opening B P → Base
opening_base begin protect (opens.Begins machine) = begin machine
opening_base begin protect (opens.Protects machine) = protect machine

-- the same under a scheme
abbrev pub opening_of : {B P C F : Type 0} → RoundPhases B P C F → Opening B P → Base
opening_of phases opening = opening_base phases.begin phases.protect opening

-- a round begins, if with anything, and else protects
abbrev pub open_by : Option Base → Base → Base
open_by None protect = protect
open_by (Some base) protect = base

abbrev pub open_base : SchemeKind → Post → ℕ → Root → Base
open_base kind post index root = open_by (begin_base kind post) (protect_base kind index root)

-- the machine goes on, or the protection comes after it
abbrev pub opens_on : Base → Outcome → Base
opens_on protect (Goes base) = base
opens_on protect (Ends ending) = protect

-- the end of a protection, if it is one
abbrev pub protected_in : Outcome → Option ProtectEnd
protected_in (Goes base) = None
protected_in (Ends Done) = None
protected_in (Ends (Protected ending)) = Some ending
protected_in (Ends (Followed ending)) = None
protected_in (Ends (Allocated ending)) = None
protected_in (Ends (Retired life)) = None
protected_in (Ends (Clocked clock)) = None

-- the protection has ended, or the opening stands at this phase
abbrev pub OpensOn : Base → Outcome → Option ProtectEnd → Base → Type 0
OpensOn protect outcome None base = (protected_in outcome ≡ None) × (base ≡ opens_on protect outcome)
OpensOn protect outcome (Some ending) base = outcome ≡ Ends (Protected ending)

-- the phase of a round's last machines
pub data CloseAt : Type 0 where
  ClearsAt : Base → CloseAt
  FinishesAt : Base → CloseAt

abbrev pub close_at : {C F : Type 0} → (C → Base) → (F → Base) → Closing C F → CloseAt
close_at clear finish (closes.Clears machine) = ClearsAt (clear machine)
close_at clear finish (closes.Finishes machine) = FinishesAt (finish machine)

-- the same under a scheme
abbrev pub closing_of : {B P C F : Type 0} → RoundPhases B P C F → Closing C F → CloseAt
closing_of phases closing = close_at phases.clear phases.finish closing

abbrev pub close_base : CloseAt → Base
close_base (ClearsAt base) = base
close_base (FinishesAt base) = base

-- what the end of a round leaves and tells, and the machine that it waits for; None where the round is over
pub record CloseTurn : Type 0 where
  pub post : Post
  pub told : List Event
  pub at : Option CloseAt

abbrev pub finish_by : Post → List Event → Option Base → CloseTurn
finish_by post told None = record { post = post; told = told; at = None }
finish_by post told (Some base) = record { post = post; told = told; at = Some (FinishesAt base) }

-- the index is cleared: finish, unless another round comes at once
abbrev pub finish_from : SchemeKind → (again : Bool) → Post → List Event → CloseTurn
finish_from kind true post told = record { post = post; told = told; at = None }
finish_from kind false post told = finish_by post told (finish_base kind post)

abbrev pub close_by : SchemeKind → ℕ → (again : Bool) → Post → List Event → Option Base → CloseTurn
close_by kind index again post told None = finish_from kind again (clear_post kind post index) (told ++ clear_told kind post index)
close_by kind index again post told (Some base) = record { post = post; told = told; at = Some (ClearsAt base) }

-- the end of a round begins
abbrev pub close_from : SchemeKind → ℕ → (again : Bool) → Post → List Event → CloseTurn
close_from kind index again post told = close_by kind index again post told (clear_base kind index)

abbrev pub cleared_by : SchemeKind → (again : Bool) → Post → List Event → Outcome → CloseTurn
cleared_by kind again post told (Goes base) = record { post = post; told = told; at = Some (ClearsAt base) }
cleared_by kind again post told (Ends ending) = finish_from kind again post told

abbrev pub finished_by : Post → List Event → Outcome → CloseTurn
finished_by post told (Goes base) = record { post = post; told = told; at = Some (FinishesAt base) }
finished_by post told (Ends ending) = record { post = post; told = told; at = None }

-- one step of the machine that it waits for
abbrev pub close_step : SchemeKind → (again : Bool) → CloseAt → Post → ℕ → CloseTurn
close_step kind again (ClearsAt base) post found = cleared_by kind again (after base post found).post (after base post found).told (after base post found).outcome
close_step kind again (FinishesAt base) post found = finished_by (after base post found).post (after base post found).told (after base post found).outcome

-- where a round's last machines stand, if it has not ended
abbrev pub closings_of : {B P C F : Type 0} → RoundPhases B P C F → Option (Closing C F) → Option CloseAt
closings_of phases None = None
closings_of phases (Some closing) = Some (closing_of phases closing)

-- the round is over, or its end stands here
abbrev pub Closes : Option CloseAt → (over : Bool) → CloseAt → Type 0
Closes next true at = next ≡ None
Closes next false at = next ≡ Some at

-- another round comes at once
abbrev pub is_again : Next → Bool
is_again Again = true
is_again MakeRoom = false
is_again (Answering answer) = false
is_again (Retiring slot answer) = false

-- the turn of a call whose round ends so
abbrev pub then_at : Task → Next → Desk → Post → List Event → Option CloseAt → CallTurn
then_at task next desk post told None = closed task next post desk told
then_at task next desk post told (Some (ClearsAt base)) = goes_on post desk told (Runs (Clears task next) base)
then_at task next desk post told (Some (FinishesAt base)) = goes_on post desk told (Runs (Finishes task next) base)

abbrev pub then_close : Task → Next → Desk → CloseTurn → CallTurn
then_close task next desk turn = then_at task next desk turn.post turn.told turn.at

-- the phase of a call whose round ends so
abbrev pub close_phase : Task → Next → CloseAt → Phase
close_phase task next (ClearsAt base) = Runs (Clears task next) base
close_phase task next (FinishesAt base) = Runs (Finishes task next) base
