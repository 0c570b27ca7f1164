-- A call that leaves a round: what holds at its steps, how its answer comes by the clock's outcome, and what the parts of a
-- step keep together.
use Rattle.std.proofs.Common.{ℕ, ◌≡◌, ◌≤◌, List, refl, sym, subst, ◌∙◌, arith}
use Rattle.wfe_core.specs.words.declared.layout.Layout.{Layout}
use Rattle.wfe_core.specs.defs.declared.call.Answer.{Answer}
use Rattle.wfe_core.specs.defs.declared.call.Answer.TheVariants as answers
use Rattle.wfe_core.specs.defs.declared.call.ClockMove.{ClockMove}
use Rattle.wfe_core.specs.defs.declared.call.ClockMove.TheVariants.{Still}
use Rattle.wfe_core.specs.defs.declared.event.Event.{Event}
use Rattle.wfe_core.specs.declared.desk.Desk.{Desk as HeldDesk}
use Rattle.wfe_core.specs.declared.post.Post.{Post}
use Rattle.wfe_core.specs.CallReady.{IsCallPlausible, IsCallReady}
use Rattle.wfe_core.specs.Calls.{AfterScan, Answered, Repeated, Task, Next}
use Rattle.wfe_core.specs.DeskHeld.{HasRoom}
use Rattle.wfe_core.specs.Desks.{Desk}
use Rattle.wfe_core.specs.Phases.{Base}
use Rattle.wfe_core.specs.Ready.{IsReady, Plausible}
use Rattle.wfe_core.specs.Rounds.{with_clock}
use Rattle.wfe_call_rounds.specs.declared.last.Last.{Last}
use Rattle.wfe_call_rounds.specs.declared.last.Last.TheVariants as lasts
use Rattle.wfe_call_rounds.specs.declared.leaving.Leave.{Leave}
use Rattle.wfe_call_rounds.specs.declared.leaving.Leave.TheVariants as leaves
use Rattle.wfe_call_rounds.specs.declared.reclaim.Reclaim.{Reclaim}
use Rattle.wfe_call_rounds.specs.declared.reclaim.Reclaim.TheVariants as reclaims
use Rattle.wfe_call_rounds.specs.declared.tidy.Tidy.{Tidy}
use Rattle.wfe_call_rounds.specs.declared.tidy.Tidy.TheVariants as tidies
use Rattle.wfe_call_rounds.specs.Endings.{next_of}
use Rattle.wfe_call_rounds.specs.Leavings.{IsLastPlausible, IsLastReady, IsLeavePlausible, IsLeaveReady, last_phase, leave_phase}
use Rattle.wfe_call_rounds.specs.Reclaims.{IsReclaimPlausible, IsReclaimReady, reclaim_phase}
use Rattle.wfe_call_rounds.specs.Rounds.{CloseAt, ClearsAt, FinishesAt, close_at, close_base, close_phase}
use Rattle.wfe_call_rounds.specs.Steps.{SameSeat}
use Rattle.wfe_call_rounds.specs.Tidies.{IsTidyPlausible, IsTidyReady, tidy_phase}
use Rattle.wfe_call_rounds.specs.Turns.{Keeps}

-- the outcome of a move takes the place of any before
pub clock_after : (answer : Answer) (old clock : ClockMove) → with_clock (with_clock answer old) clock ≡ with_clock answer clock
clock_after (answers.Done version early) old clock = refl
clock_after (answers.Taken number value early) old clock = refl
clock_after answer old clock = refl

closing_ready : (task : Task) (next : Next) (at : CloseAt) (post : Post) (desk : Desk) → IsCallReady (close_phase task next at) post desk → IsReady (close_base at) post
closing_ready task next (ClearsAt base) post desk h = h.0
closing_ready task next (FinishesAt base) post desk h = h.0

tidying_ready : (later : AfterScan) (tidy : Tidy) (post : Post) (desk : Desk) → IsCallReady (tidy_phase later tidy) post desk → IsTidyReady tidy post desk
tidying_ready later (tidies.Moves machine) post desk h = h.0
tidying_ready later (tidies.Scans clock scanner) post desk h = h.1

reclaiming_ready : (answer : Answer) (reclaim : Reclaim) (post : Post) (desk : Desk) → IsCallReady (reclaim_phase answer reclaim) post desk → IsReclaimReady reclaim post desk
reclaiming_ready answer (reclaims.Retires machine) post desk h = h
reclaiming_ready answer (reclaims.Tidies tidy) post desk h = tidying_ready (Answered answer) tidy post desk h

last_ready : (task : Task) (at : Last) (post : Post) (desk : Desk) → IsCallReady (last_phase task at) post desk → IsLastReady at post desk
last_ready task (lasts.GivesUp answer machine) post desk h = h.0
last_ready task (lasts.Tidies tidy) post desk h = tidying_ready (Repeated task) tidy post desk h
last_ready task (lasts.Reclaims answer reclaim) post desk h = reclaiming_ready (with_clock answer Still) reclaim post desk h

-- what holds where a call leaves a round
pub leave_ready : {C F : Type 0} (clear : C → Base) (finish : F → Base) (task : Task) (at : Leave C F) (post : Post) (desk : Desk) → IsCallReady (leave_phase clear finish task at) post desk → IsLeaveReady clear finish at post desk
leave_ready clear finish task (leaves.Closes ending closing) post desk h = closing_ready task (next_of ending) (close_at clear finish closing) post desk h
leave_ready clear finish task (leaves.Ends last) post desk h = last_ready task last post desk h

closing_plausible : (task : Task) (next : Next) (at : CloseAt) (post : Post) (found : ℕ) → IsCallPlausible (close_phase task next at) post found → Plausible (close_base at) post found
closing_plausible task next (ClearsAt base) post found h = h
closing_plausible task next (FinishesAt base) post found h = h

tidying_plausible : (later : AfterScan) (tidy : Tidy) (post : Post) (found : ℕ) → IsCallPlausible (tidy_phase later tidy) post found → IsTidyPlausible tidy post found
tidying_plausible later (tidies.Moves machine) post found h = h
tidying_plausible later (tidies.Scans clock scanner) post found h = h

reclaiming_plausible : (answer : Answer) (reclaim : Reclaim) (post : Post) (found : ℕ) → IsCallPlausible (reclaim_phase answer reclaim) post found → IsReclaimPlausible reclaim post found
reclaiming_plausible answer (reclaims.Retires machine) post found h = h
reclaiming_plausible answer (reclaims.Tidies tidy) post found h = tidying_plausible (Answered answer) tidy post found h

last_plausible : (task : Task) (at : Last) (post : Post) (found : ℕ) → IsCallPlausible (last_phase task at) post found → IsLastPlausible at post found
last_plausible task (lasts.GivesUp answer machine) post found h = h
last_plausible task (lasts.Tidies tidy) post found h = tidying_plausible (Repeated task) tidy post found h
last_plausible task (lasts.Reclaims answer reclaim) post found h = reclaiming_plausible (with_clock answer Still) reclaim post found h

-- what its step may find
pub leave_plausible : {C F : Type 0} (clear : C → Base) (finish : F → Base) (task : Task) (at : Leave C F) (post : Post) (found : ℕ) → IsCallPlausible (leave_phase clear finish task at) post found → IsLeavePlausible clear finish at post found
leave_plausible clear finish task (leaves.Closes ending closing) post found h = closing_plausible task (next_of ending) (close_at clear finish closing) post found h
leave_plausible clear finish task (leaves.Ends last) post found h = last_plausible task last post found h

-- what comes after a step keeps as much
pub keeps_on : (old mid new : Post) (desk held : HeldDesk) (early told : List Event) (few count : ℕ) → Keeps old mid desk held early few → SameSeat mid new told count → Keeps old new desk held told count
keeps_on old mid new desk held early told few count k s = record {
  valid = s.valid;
  layout = s.layout ∙ k.layout;
  seat = s.seat ∙ k.seat;
  most = s.most;
  room = subst (λ (layout : Layout). HasRoom held layout) (sym s.layout) k.room;
  notes = k.notes;
}

-- and where nothing does
pub keeps_more : (old new : Post) (desk held : HeldDesk) (told : List Event) (few count : ℕ) → Keeps old new desk held told few → few ≤ count → Keeps old new desk held told count
keeps_more old new desk held told few count k n = record {
  valid = k.valid;
  layout = k.layout;
  seat = k.seat;
  most = omega (arith, k.most);
  room = k.room;
  notes = k.notes;
}
