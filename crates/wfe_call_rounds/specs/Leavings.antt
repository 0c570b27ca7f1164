-- Where a call stands that leaves a round, as a phase of the model, and where it leads.
use Rattle.std.specs.Prelude.{ℕ, List, Option, Some, None}
use Rattle.wfe_core.specs.defs.declared.call.ClockMove.TheVariants.{Still}
use Rattle.wfe_core.specs.defs.declared.event.Event.{Event}
use Rattle.wfe_core.specs.declared.post.Post.{Post}
use Rattle.wfe_core.specs.Calls.{Task, Repeated, Phase, Runs, GivesUp, CallTurn, goes_on, answers}
use Rattle.wfe_core.specs.Desks.{Desk}
use Rattle.wfe_core.specs.Phases.{Base}
use Rattle.wfe_core.specs.Ready.{IsReady, Plausible}
use Rattle.wfe_core.specs.Rounds.{closed, with_clock}
use Rattle.wfe_iface.specs.Schemes.{RoundPhases}
use Rattle.wfe_slots.specs.Phases.{give_up_phase}
use Rattle.wfe_call_rounds.specs.declared.last.Last.{Last}
use Rattle.wfe_call_rounds.specs.declared.last.Last.TheVariants as lasts
use Rattle.wfe_call_rounds.specs.declared.last.Over.{Over}
use Rattle.wfe_call_rounds.specs.declared.last.Over.TheVariants as overs
use Rattle.wfe_call_rounds.specs.declared.leaving.Leave.{Leave}
use Rattle.wfe_call_rounds.specs.declared.leaving.Leave.TheVariants as leaves
use Rattle.wfe_call_rounds.specs.Endings.{next_of}
use Rattle.wfe_call_rounds.specs.Reclaims.{IsReclaimPlausible, IsReclaimReady, reclaim_phase}
use Rattle.wfe_call_rounds.specs.Rounds.{close_at, close_base, close_phase}
use Rattle.wfe_call_rounds.specs.Tidies.{IsTidyPlausible, IsTidyReady, tidy_phase}

-- what comes after the round
abbrev pub last_phase : Task → Last → Phase
last_phase task (lasts.GivesUp answer machine) = Runs (GivesUp answer) (give_up_phase machine)
last_phase task (lasts.Tidies tidy) = tidy_phase (Repeated task) tidy
last_phase task (lasts.Reclaims answer reclaim) = reclaim_phase (with_clock answer Still) reclaim

-- the round's last machines, and what comes after them
abbrev pub leave_phase : {C F : Type 0} → (C → Base) → (F → Base) → Task → Leave C F → Phase
leave_phase clear finish task (leaves.Closes ending closing) = close_phase task (next_of ending) (close_at clear finish closing)
leave_phase clear finish task (leaves.Ends last) = last_phase task last

-- the same under a scheme
abbrev pub leave_of : {B P C F : Type 0} → RoundPhases B P C F → Task → Leave C F → Phase
leave_of phases task at = leave_phase phases.clear phases.finish task at

-- and at any post
abbrev pub leave_at : {B P C F : Type 0} → RoundPhases B P C F → Task → Leave C F → Post → Phase
leave_at phases task at post = leave_of phases task at

-- what holds where it makes its next step
abbrev pub IsLastReady : Last → Post → Desk → Type 0
IsLastReady (lasts.GivesUp answer machine) post desk = IsReady (give_up_phase machine) post
IsLastReady (lasts.Tidies tidy) post desk = IsTidyReady tidy post desk
IsLastReady (lasts.Reclaims answer reclaim) post desk = IsReclaimReady reclaim post desk

abbrev pub IsLeaveReady : {C F : Type 0} → (C → Base) → (F → Base) → Leave C F → Post → Desk → Type 0
IsLeaveReady clear finish (leaves.Closes ending closing) post desk = IsReady (close_base (close_at clear finish closing)) post
IsLeaveReady clear finish (leaves.Ends last) post desk = IsLastReady last post desk

-- what a step may find
abbrev pub IsLastPlausible : Last → Post → ℕ → Type 0
IsLastPlausible (lasts.GivesUp answer machine) post found = Plausible (give_up_phase machine) post found
IsLastPlausible (lasts.Tidies tidy) post found = IsTidyPlausible tidy post found
IsLastPlausible (lasts.Reclaims answer reclaim) post found = IsReclaimPlausible reclaim post found

abbrev pub IsLeavePlausible : {C F : Type 0} → (C → Base) → (F → Base) → Leave C F → Post → ℕ → Type 0
IsLeavePlausible clear finish (leaves.Closes ending closing) post found = Plausible (close_base (close_at clear finish closing)) post found
IsLeavePlausible clear finish (leaves.Ends last) post found = IsLastPlausible last post found

-- the turn of a call whose round is over, or which is over
abbrev pub over_turn : Task → Over → Post → Desk → List Event → CallTurn
over_turn task (overs.Round ending) post desk told = closed task (next_of ending) post desk told
over_turn task (overs.Call answer) post desk told = answers post desk told answer

-- what runs goes on at this phase, or is over
abbrev pub left : Task → Option Over → Post → Desk → List Event → Phase → CallTurn
left task None post desk told phase = goes_on post desk told phase
left task (Some over) post desk told phase = over_turn task over post desk told
