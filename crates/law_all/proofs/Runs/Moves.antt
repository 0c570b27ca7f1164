-- The clock: a call says that it moved the clock to an era only where it told that era, and the record tells each era once at most.
use Rattle.std.proofs.Common.{ℕ, ◌≡◌, ◌+◌, ◌≤◌, Bool, true, false, List, Option, Some, None, refl, sym, ap, subst, arith}
use Rattle.std.specs.Prelude.{if◌then◌else◌, nat_le, ◌==◌}
use Rattle.law_all.proofs.inv.model.Facts.{number_is, rest_of}
use Rattle.law_all.specs.inv.model.Locals.{Group}
use Rattle.law_all.specs.inv.model.defs.declared.call.Answer.{Answer}
use Rattle.law_all.specs.inv.model.defs.declared.call.Answer.TheVariants as answers
use Rattle.law_all.specs.inv.model.defs.declared.call.ClockMove.{ClockMove}
use Rattle.law_all.specs.inv.model.defs.declared.call.ClockMove.TheVariants as moves
use Rattle.law_all.specs.inv.model.defs.declared.event.Event.{Event}
use Rattle.law_all.specs.inv.model.defs.declared.event.Event.TheVariants as events
use Rattle.law_all.specs.inv.model.words.Schemes.{moves as moves_clock}
use Rattle.law_all.specs.inv.model.words.declared.config.Config.{Config}
use Rattle.law_all.specs.inv.model.words.declared.layout.Layout.{Layout}
use Rattle.law_all.proofs.laws.Tells.{seen_other, seen_own}
use Rattle.law_all.specs.laws.AnswerLaw.{is_still}
use Rattle.law_all.specs.laws.HistoryAnswers.{ClockTally, answer_fits, change_fits, is_era, no_clock, outcome_fits, plain_clock, plain_clock_by}
use Rattle.law_all.specs.laws.HistoryEras.{era_ok}
use Rattle.law_all.specs.laws.StateAt.{clock_of, one, told}
use Rattle.law_all.specs.inv.history.History.{Item, record_of}
use Rattle.law_all.specs.inv.history.Record.{Each, Past}
use Rattle.law_all.specs.inv.history.Record.Past.{Start, Then}
use Rattle.law_all.specs.RunLaw.{clock_told, era_moved, has_number, is_moved_to, once_up_to, total_of}
use Rattle.law_all.specs.Runs.{AtRest, logs_of}
use Rattle.law_all.proofs.Runs.Kept.{Kept, histories_keep}
use Rattle.law_all.proofs.Runs.Numbers.{at_most_once, first_is, once_more, once_none, one_counts}
use Rattle.law_all.proofs.Runs.Rests.{totals_fit}
use Rattle.law_all.proofs.Runs.Weights.{Measure, Rises, Weighs}

abbrev is_era_told : (era : ℕ) → Event → Bool
is_era_told era (events.Era other) = other == era
is_era_told era event = false

-- one where the call has told this era last
abbrev told_last : (era : ℕ) → ClockTally → ℕ
told_last era t = one (is_era era t.moved)

-- one where an answer says so
abbrev says_era : (era : ℕ) → Option ClockMove → ℕ
says_era era move = if has_number era (era_moved move) then 1 else 0

moved_same : (era other : ℕ) (moved : Option ℕ) → is_era other moved ≡ true → is_era era moved ≡ (other == era)
moved_same era other None h = absurd (cc)
moved_same era other (Some last) h = ap (λ (x : ℕ). x == era) (number_is last other h)

move_told : (last era : ℕ) (t : ClockTally) (clock : ClockMove) → outcome_fits last t clock ≡ true → says_era era (Some clock) ≤ told_last era t
move_told last era t (moves.Moved other) h =
    let e : is_era era t.moved ≡ (other == era) = moved_same era other t.moved (rest_of t.due (is_era other t.moved) h) in
    let says : says_era era (Some (moves.Moved other)) ≡ one (other == era) = one_counts (other == era) in
    let tells : told_last era t ≡ one (other == era) = ap one e in
    omega arith
move_told last era t clock h = omega arith

-- a change says so only where retirements move the clock
still_told : (era : ℕ) (t : ClockTally) (clock : ClockMove) → is_still clock ≡ true → says_era era (Some clock) ≤ told_last era t
still_told era t moves.Still h = omega arith
still_told era t clock h = absurd (cc)

change_told : (by_retires : Bool) (last era : ℕ) (t : ClockTally) (clock : ClockMove) → change_fits by_retires last t clock ≡ true
    → says_era era (Some clock) ≤ told_last era t
change_told true last era t clock h = move_told last era t clock h
change_told false last era t clock h = still_told era t clock h

answer_told : (by_retires : Bool) (last era : ℕ) (t : ClockTally) (answer : Answer) → answer_fits by_retires last t answer ≡ true
    → says_era era (clock_told answer) ≤ told_last era t
answer_told by_retires last era t (answers.Done version clock) h = change_told by_retires last era t clock h
answer_told by_retires last era t (answers.Taken number value clock) h = change_told by_retires last era t clock h
answer_told by_retires last era t (answers.Clock clock) h = move_told last era t clock h
answer_told by_retires last era t answer h = omega arith

-- with one event more
tally_more : (every era : ℕ) (event : Event) (t : ClockTally) → told_last era (plain_clock_by every event t) ≤ told_last era t + one (is_era_told era event)
tally_more every era (events.Begin call) t = omega arith
tally_more every era (events.Retire slot birth retire) t = omega arith
tally_more every era (events.Era other) t = omega arith
tally_more every era event t = omega arith

-- so groups weigh at most what is told
abbrev by_moves : (every era : ℕ) → Measure
by_moves every era =
    record {
      exact = false;
      weight = λ (group : Group). if is_moved_to era group then 1 else 0;
      kind = is_era_told era;
      so_far = λ (k : ℕ) (p : Past). told_last era (plain_clock every k p);
    }

moves_weigh : (c : Config) (era : ℕ) → Weighs c (by_moves c.every era)
moves_weigh c era = record {
  inner = record { begins = λ call. refl; ends = λ steps answer. refl };
  stays = λ k i p event e. ap (told_last era) (seen_other (plain_clock_by c.every) no_clock k i p event e);
  rises = rises;
}
  where
    own : (k : ℕ) (p : Past) (event : Event) → plain_clock c.every k (Then p k event) ≡ plain_clock_by c.every event (plain_clock c.every k p)
    own k p event = seen_own (plain_clock_by c.every) no_clock k p event

    rises : (k : ℕ) (p : Past) (event : Event) → Kept c (Then p k event) → Rises (by_moves c.every era) k p event
    rises k p (events.Begin call) l = ap (told_last era) (own k p (events.Begin call))
    rises k p (events.End steps answer) l = λ call b. answer_told (moves_clock c.scheme) c.last_era era (plain_clock c.every k p) answer l.clocks.0
    rises k p event l =
        subst (λ (x : ClockTally). told_last era x ≤ told_last era (plain_clock c.every k p) + one (is_era_told era event)) (sym (own k p event))
        (tally_more c.every era event (plain_clock c.every k p))

-- the record tells each era that the clock has come to, after the first, once
abbrev Counted : ℕ → Past → Type 0
Counted era p = told (is_era_told era) p + one (1 == era) ≡ once_up_to (clock_of p) era

counted_entry : (c : Config) (era i : ℕ) (p : Past) (event : Event) → era_ok c p i event ≡ true → Counted era p → Counted era (Then p i event)
counted_entry c era i p (events.Era other) h g =
    let q : other ≡ clock_of p + 1 = first_is other (clock_of p + 1) (nat_le other c.last_era) h in
    let more : once_up_to other era ≡ once_up_to (clock_of p) era + one (other == era) = once_more (clock_of p) other era q in
    let before : told (is_era_told era) p + one (1 == era) ≡ once_up_to (clock_of p) era = g in
    rw (← q, more) (omega arith)
counted_entry c era i p event h g = let before : told (is_era_told era) p + one (1 == era) ≡ once_up_to (clock_of p) era = g in omega arith

counted : (c : Config) (era : ℕ) (p : Past) → Each (era_ok c) p → Counted era p
counted c era Start h =
    let first : once_up_to 1 era ≡ once_up_to 0 era + one (1 == era) = once_more 0 1 era refl in
    let none : once_up_to 0 era ≡ 0 = once_none era in
    omega arith
counted c era (Then p i event) h = counted_entry c era i p event h.0 (counted c era p h.1)

pub eras_add_up : (layout : Layout) (items : List Item) (era : ℕ) → AtRest layout items → total_of (is_moved_to era) (logs_of layout items) ≤ 1
eras_add_up layout items era a =
    let c : Config = layout.config in
    let r : Past = record_of layout items in
    let said : total_of (is_moved_to era) (logs_of layout items) ≤ told (is_era_told era) r =
    totals_fit layout items (by_moves c.every era) (moves_weigh c era) a in
    let all : told (is_era_told era) r + one (1 == era) ≡ once_up_to (clock_of r) era = counted c era r (histories_keep layout items a.valid).eras in
    let once : once_up_to (clock_of r) era ≤ 1 = at_most_once (clock_of r) era in
    omega arith
