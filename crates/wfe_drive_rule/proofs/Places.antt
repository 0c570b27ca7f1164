-- How the steps of a seat change place words, and which seats mark a place.
use Rattle.std.proofs.Common.{Bool, List, [], ap, cond, false, length, refl, true, ℕ, ◌++◌, ◌+◌, ◌∙◌, ◌∷◌, ◌≡◌, ◌≢◌}
use Rattle.std.specs.Prelude.{None, Option, Some, ◌==◌}
use Rattle.wfe_core.specs.defs.declared.call.Call.{Call}
use Rattle.wfe_core.specs.defs.declared.call.Call.TheVariants as names
use Rattle.wfe_core.specs.Calls.{Idle, Keeping, MarkLeft, MarkTaken, Phase, TakeList, Works}
use Rattle.wfe_core.specs.Locals.{Local, after, busy_in}
use Rattle.law_reuse.specs.inv.Places.{is_leaving, placed}
use Rattle.law_reuse.proofs.AnswersTold.Owed.{Serves}
use Rattle.wfe_drive_rule.specs.Handles.{adopts}
use Rattle.wfe_drive_rule.specs.Rule.{marks_at}
use Rattle.wfe_drive_rule.specs.Views.{entered}

-- a step that moves no list changes no place word
pub placed_same : (i : ℕ) (call : Call) (phase : Phase) (k word : ℕ) → is_leaving phase ≡ false → adopts call ≡ false → Serves call phase → placed i phase k word ≡ word
placed_same i call (Works (Keeping MarkLeft)) k word l a s = absurd (cc)
placed_same i call (Works (Keeping (TakeList place))) k word l a s = let no : adopts call ≡ true = ap adopts s in absurd (cc)
placed_same i call (Works (Keeping (MarkTaken place count))) k word l a s = let no : adopts call ≡ true = ap adopts s in absurd (cc)
placed_same i call phase k word l a s = refl

-- a call that takes over no list comes to no step that marks one
pub marks_none : (call : Call) (phase : Phase) (place : ℕ) → adopts call ≡ false → (busy_in phase ≡ true → Serves call phase) → marks_at phase place ≡ false
marks_none call (Works (Keeping (MarkTaken at count))) place a s = let no : adopts call ≡ true = ap adopts (s refl) in absurd (cc)
marks_none call phase place a s = refl

-- nor is there one between calls, nor where a call has begun
pub marks_idle : (phase : Phase) (place : ℕ) → busy_in phase ≡ false → marks_at phase place ≡ false
marks_idle (Works (Keeping (MarkTaken at count))) place h = absurd (cc)
marks_idle phase place h = refl

pub marks_before : (l : Local) (call : Option Call) (place : ℕ) → ((c : Call) → call ≡ Some c → busy_in l.phase ≡ false) → marks_at (entered l call).phase place ≡ false → marks_at l.phase place ≡ false
marks_before l None place idle h = h
marks_before l (Some call) place idle h = marks_idle l.phase place (idle call refl)

-- where a list is taken over
pub record Took (l : Local) (place : ℕ) (m : Local) : Type 0 where
  pub marks : m.phase ≡ Works (Keeping (MarkTaken place (length l.desk.gift)))
  pub list : m.desk.list ≡ l.desk.list ++ l.desk.gift

pub takes_after : (l : Local) (place found : ℕ) → l.phase ≡ Works (Keeping (TakeList place)) → (found == 1) ≡ true → Took l place (after l found)
takes_after l place found e f = record { marks = rw (e, f) refl; list = rw (e, f) refl }

-- where none is, where it is marked, and where a seat leaves, the call is answered
pub misses_after : (l : Local) (place found : ℕ) → l.phase ≡ Works (Keeping (TakeList place)) → (found == 1) ≡ false → (after l found).phase ≡ Idle
misses_after l place found e f = rw (e, f) refl

pub marks_after : (l : Local) (place count found : ℕ) → l.phase ≡ Works (Keeping (MarkTaken place count)) → (after l found).phase ≡ Idle
marks_after l place count found e = rw e refl

pub leaves_after : (l : Local) (found : ℕ) → l.phase ≡ Works (Keeping MarkLeft) → ((after l found).phase ≡ Idle) × ((after l found).desk.list ≡ l.desk.list)
leaves_after l found e = (rw e refl, rw e refl)
