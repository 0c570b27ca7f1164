-- Where a tidying stands, as a phase of the model.
use Rattle.std.specs.Prelude.{ℕ, List, Option, Some, None}
use Rattle.wfe_core.specs.defs.declared.call.ClockMove.{ClockMove}
use Rattle.wfe_core.specs.defs.declared.event.Event.{Event}
use Rattle.wfe_core.specs.declared.post.Post.{Post}
use Rattle.wfe_core.specs.CallReady.{scan_plausible, scan_ready}
use Rattle.wfe_core.specs.Calls.{AfterScan, Phase, Runs, Tidies, CallTurn, goes_on}
use Rattle.wfe_core.specs.Calls as calls
use Rattle.wfe_core.specs.Desks.{Desk}
use Rattle.wfe_core.specs.Ready.{IsReady, Plausible}
use Rattle.wfe_core.specs.Scan.{scanned}
use Rattle.wfe_core.specs.Steps.{after_move}
use Rattle.wfe_help.specs.Phases.{move_phase}
use Rattle.wfe_scan.specs.Scans.{op_ready, scans_at}
use Rattle.wfe_call_rounds.specs.declared.tidy.Tidy.{Tidy}
use Rattle.wfe_call_rounds.specs.declared.tidy.Tidy.TheVariants as ats

abbrev pub tidy_phase : AfterScan → Tidy → Phase
tidy_phase later (ats.Moves machine) = Runs (Tidies later) (move_phase machine)
tidy_phase later (ats.Scans clock scanner) = calls.Scans (after_move later clock) (scans_at scanner)

-- what holds where it asks for an operation, and where it takes a step
abbrev pub tidy_op_ready : Tidy → Post → Type 0
tidy_op_ready (ats.Moves machine) post = IsReady (move_phase machine) post
tidy_op_ready (ats.Scans clock scanner) post = op_ready (scans_at scanner) post

abbrev pub IsTidyReady : Tidy → Post → Desk → Type 0
IsTidyReady (ats.Moves machine) post desk = IsReady (move_phase machine) post
IsTidyReady (ats.Scans clock scanner) post desk = scan_ready (scans_at scanner) post desk

-- what a step may find
abbrev pub IsTidyPlausible : Tidy → Post → ℕ → Type 0
IsTidyPlausible (ats.Moves machine) post found = Plausible (move_phase machine) post found
IsTidyPlausible (ats.Scans clock scanner) post found = scan_plausible (scans_at scanner) post found

-- the turn of a call whose tidying goes on, or is over with this outcome of the move
abbrev pub tidy_turn : AfterScan → Post → Desk → List Event → Option ClockMove → Tidy → CallTurn
tidy_turn later post desk told None tidy = goes_on post desk told (tidy_phase later tidy)
tidy_turn later post desk told (Some clock) tidy = scanned (after_move later clock) post desk told
