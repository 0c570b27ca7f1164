-- At which stage a seat is at a position of a record, if each get and each call that changes something takes effect by when it tells so.
use Rattle.std.proofs.Common.{ℕ, ◌≡◌, Bool, true, false, refl, sym, ap, subst, List, [], ◌∷◌, ◌++◌, Option, None, Some}
use Rattle.std.specs.Prelude.{◌==◌}
use Rattle.laws.proofs.records.defs.Facts.{number_is, same_number}
use Rattle.laws.specs.StateAt.{began_by, began_of, is_open, opened_by, told_of, with_told}
use Rattle.laws.specs.defs.declared.call.Answer.TheVariants as answers
use Rattle.laws.specs.defs.declared.call.Answer.{Answer}
use Rattle.laws.specs.defs.declared.call.Call.{Call}
use Rattle.laws.specs.defs.declared.call.ClockMove.TheVariants as moves
use Rattle.laws.specs.defs.declared.event.Event.TheVariants as events
use Rattle.laws.specs.defs.declared.event.Event.{Event}
use Rattle.laws.specs.records.Record.Past.{Then}
use Rattle.laws.specs.records.Record.{Past}
use Rattle.law_linear.specs.Points.Stage.{Answered, Called, Outside}
use Rattle.law_linear.specs.Points.{Stage}

-- what a call that tells this answers
abbrev pub told_answer : Event → Option Answer
told_answer (events.Got bucket version key value) = Some (answers.Got version value)
told_answer (events.Put bucket version key value) = Some (answers.Done version moves.Still)
told_answer (events.Removed bucket version key) = Some (answers.Done version moves.Still)
told_answer (events.Queued number value) = Some (answers.Queued number)
told_answer (events.Taken number value) = Some (answers.Taken number value moves.Still)
told_answer event = None

abbrev pub or_else : Option Answer → Option Answer → Option Answer
or_else None other = other
or_else (Some answer) other = Some answer

abbrev pub first_answer : List Event → Option Answer
first_answer [] = None
first_answer (event ∷ told) = or_else (told_answer event) (first_answer told)

abbrev pub stage_from : (inside : Bool) → Option Call → Option Answer → Stage
stage_from false began told = Outside
stage_from true None told = Outside
stage_from true (Some call) None = Called call
stage_from true (Some call) (Some answer) = Answered answer

abbrev pub stage_at : ℕ → Past → Stage
stage_at i p = stage_from (is_open i p) (began_of i p) (first_answer (told_of i p))

pub first_more : (told : List Event) (event : Event) → told_answer event ≡ None → first_answer (told ++ event ∷ []) ≡ first_answer told
first_more [] event h = rw h refl
first_more (x ∷ told) event h = ap (or_else (told_answer x)) (first_more told event h)

-- after an entry of its own
abbrev pub own_stage : ℕ → Past → Event → Stage
own_stage i p event = stage_from (opened_by event (is_open i p)) (began_by event (began_of i p)) (first_answer (with_told event (told_of i p)))

pub stages_after : (i : ℕ) (event : Event) (p : Past) (stage : ℕ → Stage) → stage i ≡ own_stage i p event → ((k : ℕ) → (k == i) ≡ false → stage k ≡ stage_at k p)
    → (k : ℕ) → stage k ≡ stage_at k (Then p i event)
stages_after i event p stage own others k = by (k == i) refl
  where
    by : (same : Bool) → (k == i) ≡ same → stage k ≡ stage_at k (Then p i event)
    by true e = subst (λ (x : ℕ). stage x ≡ stage_at x (Then p i event)) (sym (number_is k i e)) (rw (same_number i) own)
    by false e = rw e (others k e)
