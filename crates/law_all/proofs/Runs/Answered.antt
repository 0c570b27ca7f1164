-- Each answer is right, as far as its call's own notes and the calls of its seat before it show.
use Rattle.std.proofs.Common.{Bool, List, Option, Some, ap, false, length, refl, subst, sym, true, ℕ, ◌+◌, ◌∙◌, ◌≡◌}
use Rattle.std.proofs.lemmas.List.FromFn.{length-map-range_with_len}
use Rattle.std.specs.Prelude.{if◌then◌else◌, is_some, ◌%◌, ◌&&◌, ◌==◌}
use Rattle.law_all.proofs.inv.model.Facts.{false_of_not, first_of, le_test, lt_test, number_is, rest_of, same_test}
use Rattle.law_all.specs.inv.model.Desks.{Notes}
use Rattle.law_all.specs.inv.model.Locals.{Group}
use Rattle.law_all.specs.inv.model.defs.declared.call.Answer.TheVariants as answers
use Rattle.law_all.specs.inv.model.defs.declared.call.Answer.{Answer}
use Rattle.law_all.specs.inv.model.defs.declared.call.Call.TheVariants as calls
use Rattle.law_all.specs.inv.model.defs.declared.call.Call.{Call}
use Rattle.law_all.specs.inv.model.defs.declared.call.ClockMove.TheVariants as moves
use Rattle.law_all.specs.inv.model.defs.declared.call.ClockMove.{ClockMove}
use Rattle.law_all.specs.inv.model.defs.declared.event.Event.TheVariants as events
use Rattle.law_all.specs.inv.model.defs.declared.event.Event.{Event}
use Rattle.law_all.specs.inv.model.words.Schemes.{moves as moves_clock}
use Rattle.law_all.specs.inv.model.words.declared.config.Config.{Config}
use Rattle.law_all.specs.inv.model.words.declared.layout.Layout.{Layout}
use Rattle.law_all.specs.inv.history.History.{Item, record_of}
use Rattle.law_all.specs.inv.history.Record.Past.{Then}
use Rattle.law_all.specs.inv.history.Record.{Each, Past}
use Rattle.law_all.proofs.inv.history.Entries.{each_before, each_of_entries}
use Rattle.law_all.proofs.Whole.{histories_are_lawful}
use Rattle.law_all.specs.Logs.Answered.{Says, SaysOfRows}
use Rattle.law_all.specs.Logs.Ledgers.{log_of, notes_of}
use Rattle.law_all.specs.Logs.Records.{IsEnded}
use Rattle.law_all.specs.Logs.Versions.{Counts, counts_of}
use Rattle.law_all.specs.laws.AnswerLaw as letter
use Rattle.law_all.specs.laws.AnswerLaw.{is_advance, retires_for, suits}
use Rattle.law_all.specs.laws.HistoryAnswers.{ClockTally, answer_fits, change_fits, outcome_fits, plain_clock, retires_ok}
use Rattle.law_all.specs.laws.Lists.{list_of}
use Rattle.law_all.specs.laws.StateAt.{has_told, is_back, is_give, one, retires_of, times}
use Rattle.law_all.specs.RunLaw.{AnswersLaw, IsCall, IsRight, clock_told, is_allowed, is_still, retired_by}
use Rattle.law_all.specs.Runs.{AtRest, logs_of}
use Rattle.law_all.proofs.Runs.Bare.{none_noted}
use Rattle.law_all.proofs.Runs.Calls.{Called, called, log_at}
use Rattle.law_all.proofs.Runs.Clocks.{due_right, retires_noted}
use Rattle.law_all.proofs.Runs.Closes.{Closes, closes}
use Rattle.law_all.proofs.Logs.Runs.Notes.{backs_noted, none_given}

-- versions and numbers are in range
allowed_by : (c : Config) (from : Counts) (r : Past) (call : Call) (answer : Answer) → suits call answer ≡ true → Says c from r call answer
    → is_allowed c.last_version answer ≡ true
allowed_by c from r (calls.Put key value) (answers.Done version clock) u s = le_test version c.last_version s.most
allowed_by c from r (calls.PutIf key value wanted) (answers.Done version clock) u s = le_test version c.last_version s.done.most
allowed_by c from r (calls.Remove key) (answers.Done version clock) u s = le_test version c.last_version s.most
allowed_by c from r call (answers.Done version clock) u s = absurd (cc)
allowed_by c from r (calls.Put key value) (answers.BucketFull version) u s = lt_test version c.last_version s.early
allowed_by c from r (calls.PutIf key value wanted) (answers.BucketFull version) u s = lt_test version c.last_version s.full.early
allowed_by c from r call (answers.BucketFull version) u s = absurd (cc)
allowed_by c from r (calls.Put key value) (answers.Spent number) u s = same_test number c.last_version s.final
allowed_by c from r (calls.PutIf key value wanted) (answers.Spent number) u s = same_test number c.last_version s.spent.final
allowed_by c from r (calls.Remove key) (answers.Spent number) u s = same_test number c.last_version s.spent.final
allowed_by c from r (calls.Enqueue value) (answers.Spent number) u s = same_test number c.last_version s.final
allowed_by c from r call (answers.Spent number) u s = absurd (cc)
allowed_by c from r (calls.Enqueue value) (answers.Queued number) u s = le_test number c.last_version s.most
allowed_by c from r call (answers.Queued number) u s = absurd (cc)
allowed_by c from r call answer u s = refl

-- a call that finds no row was given none
full_by : (c : Config) (k : ℕ) (p : Past) (call : Call) (answer : Answer) → answer ≡ answers.Full → suits call answer ≡ true → SaysOfRows c k p call answer
    → has_told k is_give p ≡ false
full_by c k p (calls.Put key value) answers.Full e u s = s.given
full_by c k p (calls.PutIf key value wanted) answers.Full e u s = s.given
full_by c k p (calls.Remove key) answers.Full e u s = s.given
full_by c k p (calls.Enqueue value) answers.Full e u s = s.given
full_by c k p call answers.Full e u s = absurd (cc)
full_by c k p call answer e u s = absurd (cc)

-- a scan counts what went back
back_by : (c : Config) (k : ℕ) (p : Past) (call : Call) (answer : Answer) (kept back : ℕ) → answer ≡ answers.Scanned kept back → suits call answer ≡ true
    → letter.reason c k p (Some call) answer ≡ true → back ≡ times k is_back p
back_by c k p calls.Scan (answers.Scanned stay went) kept back e u h =
    let same : went ≡ back = cc in
    sym same ∙ number_is went (times k is_back p) (rest_of (stay == length (list_of k p)) (went == times k is_back p) h)
back_by c k p call (answers.Scanned stay went) kept back e u h = absurd (cc)
back_by c k p call answer kept back e u h = absurd (cc)

-- the clock stands still just where it had not to be moved
still_by : (last : ℕ) (t : ClockTally) (move : ClockMove) → outcome_fits last t move ≡ true → is_still move ≡ (if t.due then false else true)
still_by last t moves.Still h = let due : t.due ≡ false = false_of_not t.due h in rw due refl
still_by last t (moves.Moved era) h = let due : t.due ≡ true = first_of t.due _ h in rw due refl
still_by last t (moves.Other era) h = let due : t.due ≡ true = first_of t.due _ h in rw due refl
still_by last t (moves.EraSpent era) h = let due : t.due ≡ true = first_of t.due _ h in rw due refl

told_still : (last : ℕ) (t : ClockTally) (told move : ClockMove) → ◌≡◌ {A = Option ClockMove} (Some told) (Some move) → outcome_fits last t told ≡ true
    → is_still move ≡ (if t.due then false else true)
told_still last t told move e h = let same : told ≡ move = cc in still_by last t move (subst (λ (x : ClockMove). outcome_fits last t x ≡ true) same h)

changed_still : (by_retires : Bool) (last : ℕ) (t : ClockTally) (told move : ClockMove) → ◌≡◌ {A = Option ClockMove} (Some told) (Some move)
    → change_fits by_retires last t told ≡ true → is_still move ≡ (if by_retires && t.due then false else true)
changed_still true last t told move e h = told_still last t told move e h
changed_still false last t told move e h = let same : told ≡ move = cc in subst (λ (x : ClockMove). is_still x ≡ true) same h

-- an advance moves it, and no call moves it that answers a change, or a value taken, where retirements do not
abbrev is_moved : (by_retires : Bool) → Call → ClockTally → Bool
is_moved by_retires call t = if is_advance call then t.due else by_retires && t.due

clock_by : (by_retires : Bool) (last : ℕ) (t : ClockTally) (call : Call) (answer : Answer) (move : ClockMove) → suits call answer ≡ true
    → clock_told answer ≡ Some move → answer_fits by_retires last t answer ≡ true → is_still move ≡ (if is_moved by_retires call t then false else true)
clock_by by_retires last t calls.Advance (answers.Clock clock) move s e h = told_still last t clock move e h
clock_by by_retires last t call (answers.Clock clock) move s e h = absurd (cc)
clock_by by_retires last t (calls.Put key value) (answers.Done version clock) move s e h = changed_still by_retires last t clock move e h
clock_by by_retires last t (calls.PutIf key value wanted) (answers.Done version clock) move s e h = changed_still by_retires last t clock move e h
clock_by by_retires last t (calls.Remove key) (answers.Done version clock) move s e h = changed_still by_retires last t clock move e h
clock_by by_retires last t call (answers.Done version clock) move s e h = absurd (cc)
clock_by by_retires last t calls.Dequeue (answers.Taken number value clock) move s e h = changed_still by_retires last t clock move e h
clock_by by_retires last t call (answers.Taken number value clock) move s e h = absurd (cc)
clock_by by_retires last t call answer move s e h = absurd (cc)

moved_due : (advance by_retires told due : Bool) → told ≡ (if advance then true else due)
    → (if advance then told else by_retires && told) ≡ (if advance then true else by_retires && due)
moved_due true by_retires told due e = e
moved_due false by_retires told due e = ap (λ (x : Bool). by_retires && x) e

-- what the laws of a history say of a call that has ended
record Ended (c : Config) (k steps : ℕ) (p : Past) (call : Call) (answer : Answer) : Type 0 where
  reason : letter.reason c k p (Some call) answer ≡ true
  clock : answer_fits (moves_clock c.scheme) c.last_era (plain_clock c.every k p) answer ≡ true
  retires : Each retires_ok (Then p k (events.End steps answer))

ended : (layout : Layout) (items : List Item) (k : ℕ) (before : List Group) (group : Group) → AtRest layout items
    → (e : IsEnded k (record_of layout items) before group) → Ended layout.config k group.notes.steps e.at group.call group.answer
ended layout items k before group rest e =
    let c : Config = layout.config in
    let event : Event = events.End group.notes.steps group.answer in
    let l = histories_are_lawful layout items rest.valid in
    record {
      reason = ap (λ (call : Option Call). letter.reason c k e.at call group.answer) (sym e.call) ∙ l.laws.answers.reasons e.at k event e.later e.cut;
      clock = l.beyond.answers.clock e.at k event e.later e.cut;
      retires =
          each_before retires_ok (Then e.at k event) e.later
          (subst (Each retires_ok) e.cut (each_of_entries retires_ok (record_of layout items) l.beyond.answers.retires));
    }

right : (layout : Layout) (items : List Item) → AtRest layout items → (before : List Group) (group : Group) → IsCall (logs_of layout items) before group
    → IsRight layout.config before group
right layout items rest before group h =
    let c : Config = layout.config in
    let r : Past = record_of layout items in
    let a : Called layout items before group = called layout items before group rest.valid h in
    let k : ℕ = a.seat in
    let e : IsEnded k r before group = a.is.end in
    let p : Past = e.at in
    let steps : ℕ = group.notes.steps in
    let z : Closes c k p r group.call group.answer = closes layout items k before group rest.valid e in
    let l : Ended c k steps p group.call group.answer = ended layout items k before group rest e in
    let retired : is_some group.notes.retired ≡ is_some (notes_of k p).retired = ap (λ (x : Notes). is_some x.retired) e.notes in
    let t : ClockTally = plain_clock c.every k p in
    let noted : Bool = is_some group.notes.retired && (retired_by before + 1) % c.every == 0 in
    let due : t.due ≡ (if is_advance group.call then true else noted) =
    due_right c.every c.buckets k steps p group.call group.answer z.calls z.answers l.retires.1 z.opened l.retires.0 e.call z.suits
    ∙ ap (λ (noted : Bool). if is_advance group.call then true else noted && (retired_by (log_of k p) + 1) % c.every == 0) (sym retired)
    ∙ ap (λ (log : List Group). if is_advance group.call then true else is_some group.notes.retired && (retired_by log + 1) % c.every == 0) e.log in
    record {
      suits = z.suits;
      allowed = allowed_by c (counts_of a.is.begun.from) r group.call group.answer z.suits a.is.says;
      full = λ f. ap (λ (x : Notes). x.given) e.notes ∙ none_given k p (full_by c k p group.call group.answer f z.suits a.is.rows);
      retires = ap one retired ∙ retires_noted k steps p group.answer l.retires.0 ∙ number_is (retires_of k p) (retires_for group.answer) l.retires.0;
      clock = λ move f.
          clock_by (moves_clock c.scheme) c.last_era t group.call group.answer move z.suits f l.clock
          ∙ ap (λ (x : Bool). if x then false else true) (moved_due (is_advance group.call) (moves_clock c.scheme) t.due noted due);
      back = λ kept back f.
          back_by c k p group.call group.answer kept back f z.suits l.reason ∙ backs_noted k p ∙ ap (λ (x : Notes). length x.back) (sym e.notes);
      bare = none_noted layout items before group rest.valid h;
    }

pub answered : (layout : Layout) (items : List Item) → AtRest layout items → AnswersLaw layout.config (logs_of layout items)
answered layout items rest = record {
  seats = length-map-range_with_len (log_at layout items) 0 layout.config.seats;
  right = right layout items rest;
}
