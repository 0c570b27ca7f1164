-- Where a call ends, it has told of the map and of the queue just what its answer says; so logs weigh as much as the record tells.
use Rattle.std.proofs.Common.{ℕ, ◌≡◌, ◌+◌, Bool, true, false, List, [], ◌∷◌, ◌++◌, Option, Some, refl, sym, ap, ◌∙◌, subst, arith}
use Rattle.std.proofs.lemmas.List.Sums.{sum_by_push}
use Rattle.std.specs.Prelude.{count_by, if◌then◌else◌, ◌&&◌, ◌==◌}
use Rattle.law_all.proofs.inv.model.Facts.{first_of, number_is, rest_of}
use Rattle.law_all.specs.inv.model.Desks.{Notes, noted}
use Rattle.law_all.specs.inv.model.Locals.{Group}
use Rattle.law_all.specs.inv.model.defs.declared.call.Answer.{Answer}
use Rattle.law_all.specs.inv.model.defs.declared.call.Call.{Call}
use Rattle.law_all.specs.inv.model.defs.declared.event.Event.{Event}
use Rattle.law_all.specs.inv.model.defs.declared.event.Event.TheVariants as events
use Rattle.law_all.specs.inv.model.words.declared.config.Config.{Config}
use Rattle.law_all.specs.inv.model.words.declared.layout.Layout.{Layout}
use Rattle.law_all.specs.laws.AnswerLaw.{same_event, suits}
use Rattle.law_all.specs.laws.HistoryAnswers.{answer_right, owes, same_told}
use Rattle.law_all.specs.laws.StateAt.{began_of, one, told, told_of, with_told}
use Rattle.law_all.proofs.Logs.Heard.{same_got, same_put, same_queued_event, same_removed, same_taken}
use Rattle.law_all.proofs.Logs.Knows.{is_inner, other_told, own_told}
use Rattle.law_all.specs.Logs.Ledgers.{notes_of}
use Rattle.law_all.specs.inv.history.History.{Item, record_of}
use Rattle.law_all.specs.inv.history.Record.{Past}
use Rattle.law_all.specs.inv.history.Record.Past.{Then}
use Rattle.law_all.specs.RunLaw.{total_of}
use Rattle.law_all.specs.Runs.{AtRest, logs_of}
use Rattle.law_all.proofs.Runs.Kept.{Kept}
use Rattle.law_all.proofs.Runs.Numbers.{one_counts}
use Rattle.law_all.proofs.Runs.Rests.{totals_fit}
use Rattle.law_all.proofs.Runs.Weights.{Measure, Rises, Weighs}

-- two lists that tell the same
same_is : (event other : Event) → same_event event other ≡ true → event ≡ other
same_is (events.Got b version key value) (events.Got b' version' key' value') h = same_got b' version' key' value' (events.Got b version key value) h
same_is (events.Put b version key value) (events.Put b' version' key' value') h = same_put b' version' key' value' (events.Put b version key value) h
same_is (events.Removed b version key) (events.Removed b' version' key') h = same_removed b' version' key' (events.Removed b version key) h
same_is (events.Queued number value) (events.Queued number' value') h = same_queued_event number' value' (events.Queued number value) h
same_is (events.Taken number value) (events.Taken number' value') h = same_taken number' value' (events.Taken number value) h
same_is (events.Copied from index slot) (events.Copied from' index' slot') h =
    let rest = rest_of (from == from') (index == index' && slot == slot') h in
    let e1 = number_is from from' (first_of (from == from') (index == index' && slot == slot') h) in
    let e2 = number_is index index' (first_of (index == index') (slot == slot') rest) in
    let e3 = number_is slot slot' (rest_of (index == index') (slot == slot') rest) in cc
same_is (events.Left count) (events.Left count') h = ap events.Left (number_is count count' h)
same_is (events.Adopted place count) (events.Adopted place' count') h =
    let e1 = number_is place place' (first_of (place == place') (count == count') h) in
    let e2 = number_is count count' (rest_of (place == place') (count == count') h) in cc
same_is event other h = absurd (cc)

told_same : (told others : List Event) → same_told told others ≡ true → told ≡ others
told_same [] [] h = refl
told_same [] (other ∷ others) h = absurd (cc)
told_same (event ∷ told) [] h = absurd (cc)
told_same (event ∷ told) (other ∷ others) h =
    let e : event ≡ other = same_is event other (first_of (same_event event other) (same_told told others) h) in
    let q : told ≡ others = told_same told others (rest_of (same_event event other) (same_told told others) h) in cc

-- a kind of events of the map, of the queue and of lists alone
abbrev pub is_heard : Event → Bool
is_heard (events.Got bucket version key value) = true
is_heard (events.Put bucket version key value) = true
is_heard (events.Removed bucket version key) = true
is_heard (events.Queued number value) = true
is_heard (events.Taken number value) = true
is_heard (events.Left count) = true
is_heard (events.Adopted place count) = true
is_heard event = false

pub record OfHeard (kind : Event → Bool) : Type 0 where
  pub quiet : (event : Event) → is_heard event ≡ false → kind event ≡ false

-- how many of them a call has told
count_push : (kind : Event → Bool) (told : List Event) (event : Event) → count_by kind (told ++ event ∷ []) ≡ count_by kind told + one (kind event)
count_push kind told event =
    sum_by_push (λ (other : Event). if kind other then 1 else 0) told event ∙ ap (λ (x : ℕ). count_by kind told + x) (one_counts (kind event))

count_quiet : (kind : Event → Bool) (told : List Event) (event : Event) → kind event ≡ false → count_by kind told ≡ count_by kind told + one (kind event)
count_quiet kind told event e = let none : one (kind event) ≡ 0 = rw e refl in omega arith

count_more :
    (kind : Event → Bool) (told : List Event) (event : Event)
    → OfHeard kind
    → is_inner event ≡ true
    → count_by kind (with_told event told) ≡ count_by kind told + one (kind event)
count_more kind told (events.Begin call) o h = absurd (cc)
count_more kind told (events.Got bucket version key value) o h = count_push kind told (events.Got bucket version key value)
count_more kind told (events.Put bucket version key value) o h = count_push kind told (events.Put bucket version key value)
count_more kind told (events.Removed bucket version key) o h = count_push kind told (events.Removed bucket version key)
count_more kind told (events.Queued number value) o h = count_push kind told (events.Queued number value)
count_more kind told (events.Taken number value) o h = count_push kind told (events.Taken number value)
count_more kind told (events.Copied from index slot) o h = count_push kind told (events.Copied from index slot)
count_more kind told (events.Left count) o h = count_push kind told (events.Left count)
count_more kind told (events.Adopted place count) o h = count_push kind told (events.Adopted place count)
count_more kind told event o h = count_quiet kind told event (o.quiet event refl)

-- groups that pass a test where their answers say an event of the kind
abbrev pub by_answers : (Group → Bool) → (Event → Bool) → Measure
by_answers test kind =
    record {
      exact = true;
      weight = λ (group : Group). if test group then 1 else 0;
      kind = kind;
      so_far = λ (k : ℕ) (p : Past). count_by kind (told_of k p);
    }

pub record OfAnswers (n : ℕ) (test : Group → Bool) (kind : Event → Bool) : Type 0 where
  pub owed :
      (call : Call) (answer : Answer) (notes : Notes)
      → (if test (record { call = call; answer = answer; notes = notes }) then 1 else 0) ≡ count_by kind (owes n call answer)

pub told_owed :
    (n : ℕ) (call : Call) (answer : Answer) (told : List Event) (began : Option Call)
    → began ≡ Some call
    → answer_right n began told answer ≡ true
    → told ≡ owes n call answer
told_owed n call answer told began e h =
    let q : (suits call answer && same_told told (owes n call answer)) ≡ true = subst (λ (x : Option Call). answer_right n x told answer ≡ true) e h in
    told_same told (owes n call answer) (rest_of (suits call answer) (same_told told (owes n call answer)) q)

pub answers_weigh : (c : Config) (test : Group → Bool) (kind : Event → Bool) → OfHeard kind → OfAnswers c.buckets test kind → Weighs c (by_answers test kind)
answers_weigh c test kind o w = record {
  inner = record { begins = λ call. o.quiet (events.Begin call) refl; ends = λ steps answer. o.quiet (events.End steps answer) refl };
  stays = λ k i p event e. ap (count_by kind) (other_told k i p event e);
  rises = rises;
}
  where
    rises : (k : ℕ) (p : Past) (event : Event) → Kept c (Then p k event) → Rises (by_answers test kind) k p event
    rises k p (events.Begin call) l = ap (count_by kind) (own_told k p (events.Begin call))
    rises k p (events.End steps answer) l = λ call b.
        w.owed call answer (noted (notes_of k p) (events.End steps answer))
        ∙ ap (count_by kind) (sym (told_owed c.buckets call answer (told_of k p) (began_of k p) b l.told.0))
    rises k p event l = ap (count_by kind) (own_told k p event) ∙ count_more kind (told_of k p) event o refl

pub answers_add_up :
    (layout : Layout) (items : List Item) (test : Group → Bool) (kind : Event → Bool)
    → OfHeard kind
    → OfAnswers layout.config.buckets test kind
    → AtRest layout items
    → total_of test (logs_of layout items) ≡ told kind (record_of layout items)
answers_add_up layout items test kind o w a = totals_fit layout items (by_answers test kind) (answers_weigh layout.config test kind o w) a
