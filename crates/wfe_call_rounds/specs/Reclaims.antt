-- Where the retirement of a row and what follows it stand, as a phase of the model.
use Rattle.std.specs.Prelude.{ℕ, List, Option, Some, None}
use Rattle.wfe_core.specs.defs.declared.call.Answer.{Answer}
use Rattle.wfe_core.specs.defs.declared.call.ClockMove.{ClockMove}
use Rattle.wfe_core.specs.defs.declared.event.Event.{Event}
use Rattle.wfe_core.specs.declared.post.Post.{Post}
use Rattle.wfe_core.specs.CallReady.{RetireFits}
use Rattle.wfe_core.specs.Calls.{Answered, Phase, Runs, Retires, CallTurn, goes_on, answers}
use Rattle.wfe_core.specs.Desks.{Desk}
use Rattle.wfe_core.specs.Ready.{IsReady, Plausible}
use Rattle.wfe_core.specs.Rounds.{with_clock}
use Rattle.wfe_retire.specs.Phases.{retire_phase}
use Rattle.wfe_call_rounds.specs.declared.reclaim.Reclaim.{Reclaim}
use Rattle.wfe_call_rounds.specs.declared.reclaim.Reclaim.TheVariants as ats
use Rattle.wfe_call_rounds.specs.Tidies.{IsTidyPlausible, IsTidyReady, tidy_op_ready, tidy_phase}

-- what the call answers but for the outcome of the move
abbrev pub reclaim_phase : Answer → Reclaim → Phase
reclaim_phase answer (ats.Retires machine) = Runs (Retires answer) (retire_phase machine)
reclaim_phase answer (ats.Tidies tidy) = tidy_phase (Answered answer) tidy

-- what holds where it asks for an operation, and where it takes a step
abbrev pub reclaim_op_ready : Reclaim → Post → Type 0
reclaim_op_ready (ats.Retires machine) post = IsReady (retire_phase machine) post
reclaim_op_ready (ats.Tidies tidy) post = tidy_op_ready tidy post

abbrev pub IsReclaimReady : Reclaim → Post → Desk → Type 0
IsReclaimReady (ats.Retires machine) post desk = (IsReady (retire_phase machine) post) × RetireFits (retire_phase machine) desk
IsReclaimReady (ats.Tidies tidy) post desk = IsTidyReady tidy post desk

-- what a step may find
abbrev pub IsReclaimPlausible : Reclaim → Post → ℕ → Type 0
IsReclaimPlausible (ats.Retires machine) post found = Plausible (retire_phase machine) post found
IsReclaimPlausible (ats.Tidies tidy) post found = IsTidyPlausible tidy post found

-- the turn of a call that goes on so, or answers
abbrev pub reclaim_turn : Answer → Post → Desk → List Event → Option ClockMove → Reclaim → CallTurn
reclaim_turn answer post desk told None reclaim = goes_on post desk told (reclaim_phase answer reclaim)
reclaim_turn answer post desk told (Some clock) reclaim = answers post desk told (with_clock answer clock)
