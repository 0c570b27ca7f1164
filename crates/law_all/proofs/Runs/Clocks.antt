-- Where a call ends, the clock has to be moved just where the calls of its seat before it and its own notes say so.
use Rattle.std.proofs.Common.{Bool, List, None, Option, Some, ap, arith, false, refl, subst, sym, true, ℕ, ◌++◌, ◌+◌, ◌∙◌, ◌≡◌, ◌≤◌}
use Rattle.std.proofs.lemmas.Bool.Decides.{nat_tests}
use Rattle.std.proofs.lemmas.List.Sums.{sum_by_push}
use Rattle.std.specs.Prelude.{if◌then◌else◌, is_some, nat_lt, ◌%◌, ◌&&◌, ◌==◌, not}
use Rattle.law_all.proofs.inv.model.Facts.{first_of, false_of_not, number_is}
use Rattle.law_all.specs.inv.model.Desks.{Notes, noted}
use Rattle.law_all.specs.inv.model.Locals.{Group}
use Rattle.law_all.specs.inv.model.defs.declared.call.Answer.TheVariants as answers
use Rattle.law_all.specs.inv.model.defs.declared.call.Answer.{Answer}
use Rattle.law_all.specs.inv.model.defs.declared.call.Call.TheVariants as calls
use Rattle.law_all.specs.inv.model.defs.declared.call.Call.{Call}
use Rattle.law_all.specs.inv.model.defs.declared.event.Event.TheVariants as events
use Rattle.law_all.specs.inv.model.defs.declared.event.Event.{Event}
use Rattle.law_all.specs.inv.history.Record.Past.{Start, Then}
use Rattle.law_all.specs.inv.history.Record.{Each, Past}
use Rattle.law_all.specs.Logs.Ledgers.{Ledger, ledger_by, ledger_of, left_by, log_of, no_ledger, notes_of}
use Rattle.law_all.proofs.Logs.Knows.{other_inner, own_log, own_open}
use Rattle.law_all.proofs.Logs.Ledgers.{ledger_began}
use Rattle.law_all.proofs.laws.Tells.{seen_other, seen_own}
use Rattle.law_all.specs.laws.AnswerLaw.{is_advance, retires_for, suits}
use Rattle.law_all.specs.laws.HistoryAnswers.{ClockTally, answer_right, answers_ok, no_clock, plain_clock, plain_clock_by, retires_ok}
use Rattle.law_all.specs.laws.Standing.{open_ok}
use Rattle.law_all.specs.laws.Lists.{has_left}
use Rattle.law_all.specs.laws.StateAt.{began_of, is_open, one, opened_by, retires_by, retires_of, told_of}
use Rattle.law_all.specs.RunLaw.{retired_by, retired_in}
use Rattle.law_all.proofs.Logs.Runs.Notes.{both_seen, retired_noted}

-- the clock has to be moved by a call that is an advance, or that noted a life with which its seat retired a multiple of `every` rows
abbrev Due : (every : ℕ) → Ledger → ClockTally → Type 0
Due every x t = (call : Call) → x.call ≡ Some call → t.due ≡ (if is_some x.notes.retired then t.retired % every == 0 else is_advance call)

begun_due : (told call : Call) → ◌≡◌ {A = Option Call} (Some told) (Some call) → is_advance told ≡ is_advance call
begun_due told call e = let same : told ≡ call = cc in ap is_advance same

due_by : (every : ℕ) (event : Event) (x : Ledger) (t : ClockTally) → Due every x t → Due every (ledger_by event x) (plain_clock_by every event t)
due_by every (events.Begin told) x t h = λ call e. begun_due told call e
due_by every (events.Retire slot birth retire) x t h = λ call e. refl
due_by every (events.Era era) x t h = h
due_by every event x t h = h

clock_due : (every k : ℕ) (p : Past) (call : Call) → began_of k p ≡ Some call
    → (plain_clock every k p).due ≡ (if is_some (notes_of k p).retired then (plain_clock every k p).retired % every == 0 else is_advance call)
clock_due every k p call e =
    both_seen (Due every) ledger_by no_ledger (plain_clock_by every) no_clock (λ told h. absurd (cc)) (due_by every) k p call (ledger_began k p ∙ e)

-- the rows that the call under way has retired
abbrev pending : Bool → ℕ → ℕ
pending true n = n
pending false n = 0

-- A seat has retired the rows that its log says, and those of the call under way.
abbrev Counted : (every k : ℕ) → Past → Type 0
Counted every k p = (plain_clock every k p).retired ≡ retired_by (log_of k p) + pending (is_open k p) (retires_of k p)

same_count : (t u l m : ℕ) (o q : Bool) (n r : ℕ) → u ≡ t → m ≡ l → q ≡ o → r ≡ n → t ≡ l + pending o n → u ≡ m + pending q r
same_count t u l m o q n r a b c d h = cc

other_counted : (every k i : ℕ) (p : Past) (event : Event) → (k == i) ≡ false → Counted every k p → Counted every k (Then p i event)
other_counted every k i p event e h =
    let n = other_inner k i p event e in
    same_count (plain_clock every k p).retired (plain_clock every k (Then p i event)).retired (retired_by (log_of k p))
    (retired_by (log_of k (Then p i event))) (is_open k p) (is_open k (Then p i event)) (retires_of k p) (retires_of k (Then p i event))
    (ap (λ (t : ClockTally). t.retired) (seen_other (plain_clock_by every) no_clock k i p event e))
    (ap retired_by n.log)
    n.opened
    (seen_other retires_by 0 k i p event e)
    h

-- what an event of the seat makes of it
abbrev CountedAfter : (every k : ℕ) → Past → Event → Type 0
CountedAfter every k p event =
    (plain_clock_by every event (plain_clock every k p)).retired
    ≡ retired_by (ledger_by event (ledger_of k p)).log + pending (opened_by event (is_open k p)) (retires_by event (retires_of k p))

one_more : (t l n : ℕ) (o : Bool) → o ≡ true → t ≡ l + pending o n → t + 1 ≡ l + pending o (n + 1)
one_more t l n true e h = omega (arith, h)
one_more t l n false e h = absurd (cc)

none_pending : (t l n : ℕ) (o : Bool) → o ≡ false → t ≡ l + pending o n → t ≡ l + 0
none_pending t l n true e h = absurd (cc)
none_pending t l n false e h = h

ended_count : (t l m n : ℕ) (o : Bool) → o ≡ true → m ≡ l + n → t ≡ l + pending o n → t ≡ m + 0
ended_count t l m n true e a h = omega (arith, a, h)
ended_count t l m n false e a h = absurd (cc)

-- one row at most
few_retired : (answer : Answer) → retires_for answer ≤ 1
few_retired (answers.Done version clock) = by (nat_lt 1 version)
  where
    by : (more : Bool) → (if more then 1 else 0) ≤ 1
    by true = omega arith
    by false = omega arith
few_retired (answers.Taken number value clock) = omega arith
few_retired answer = omega arith

one_noted : (noted : Bool) (n : ℕ) → noted ≡ nat_lt 0 n → n ≤ 1 → one noted ≡ n
one_noted true n e h = let low : nat_lt 0 n ≡ true = sym e in grind (arith, nat_tests)
one_noted false n e h = let low : nat_lt 0 n ≡ false = sym e in grind (arith, nat_tests)

pub retires_noted : (k steps : ℕ) (p : Past) (answer : Answer) → retires_ok p k (events.End steps answer) ≡ true
    → one (is_some (notes_of k p).retired) ≡ retires_of k p
retires_noted k steps p answer h =
    let same : retires_of k p ≡ retires_for answer = number_is (retires_of k p) (retires_for answer) h in
    one_noted (is_some (notes_of k p).retired) (retires_of k p) (retired_noted k p) (subst (λ (n : ℕ). n ≤ 1) (sym same) (few_retired answer))

-- where a call ends, its log has one group more
left_retired : (log : List Group) (call : Option Call) (told : Call) (answer : Answer) (notes : Notes) → call ≡ Some told
    → retired_by (log ++ left_by call answer notes) ≡ retired_by log + one (is_some notes.retired)
left_retired log call told answer notes e =
    ap (λ (x : Option Call). retired_by (log ++ left_by x answer notes)) e ∙ sum_by_push retired_in log (record { call = told; answer = answer; notes = notes })

call_there : (n : ℕ) (call : Option Call) (told : List Event) (answer : Answer) → answer_right n call told answer ≡ true → (began : Call) × (call ≡ Some began)
call_there n None told answer h = absurd (cc)
call_there n (Some call) told answer h = (call, refl)

own_counted : (every n k : ℕ) (p : Past) (event : Event) → open_ok p k event ≡ true → answers_ok n p k event ≡ true → retires_ok p k event ≡ true
    → Counted every k p → CountedAfter every k p event
own_counted every n k p (events.Begin call) o a r h =
    none_pending (plain_clock every k p).retired (retired_by (log_of k p)) (retires_of k p) (is_open k p) (false_of_not (is_open k p) (first_of (not (is_open k p)) (not (has_left k p)) o)) h
own_counted every n k p (events.Retire slot birth retire) o a r h =
    one_more (plain_clock every k p).retired (retired_by (log_of k p)) (retires_of k p) (is_open k p) o h
own_counted every n k p (events.End steps answer) o a r h =
    let call = call_there n (began_of k p) (told_of k p) answer a in
    let notes : Notes = noted (notes_of k p) (events.End steps answer) in
    let log : List Group = log_of k p ++ left_by (ledger_of k p).call answer notes in
    let more : retired_by log ≡ retired_by (log_of k p) + retires_of k p =
    left_retired (log_of k p) (ledger_of k p).call call.0 answer notes (ledger_began k p ∙ call.1)
    ∙ ap (λ (m : ℕ). retired_by (log_of k p) + m) (retires_noted k steps p answer r) in
    ended_count (plain_clock every k p).retired (retired_by (log_of k p)) (retired_by log) (retires_of k p) (is_open k p) o more h
own_counted every n k p event o a r h = h

own_entry : (every n k : ℕ) (p : Past) (event : Event) → open_ok p k event ≡ true → answers_ok n p k event ≡ true → retires_ok p k event ≡ true
    → Counted every k p → Counted every k (Then p k event)
own_entry every n k p event o a r h =
    same_count (plain_clock_by every event (plain_clock every k p)).retired (plain_clock every k (Then p k event)).retired
    (retired_by (ledger_by event (ledger_of k p)).log) (retired_by (log_of k (Then p k event)))
    (opened_by event (is_open k p)) (is_open k (Then p k event)) (retires_by event (retires_of k p)) (retires_of k (Then p k event))
    (ap (λ (t : ClockTally). t.retired) (seen_own (plain_clock_by every) no_clock k p event))
    (ap retired_by (own_log k p event))
    (own_open k p event)
    (seen_own retires_by 0 k p event)
    (own_counted every n k p event o a r h)

entry_counted : (every n k i : ℕ) (p : Past) (event : Event) (same : Bool) → (k == i) ≡ same → open_ok p i event ≡ true → answers_ok n p i event ≡ true
    → retires_ok p i event ≡ true → Counted every k p → Counted every k (Then p i event)
entry_counted every n k i p event true e o a r h =
    let one : i ≡ k = sym (number_is k i e) in
    subst (λ (j : ℕ). Counted every k (Then p j event)) (sym one)
    (own_entry every n k p event (subst (λ (j : ℕ). open_ok p j event ≡ true) one o) (subst (λ (j : ℕ). answers_ok n p j event ≡ true) one a)
    (subst (λ (j : ℕ). retires_ok p j event ≡ true) one r) h)
entry_counted every n k i p event false e o a r h = other_counted every k i p event e h

counted : (every n k : ℕ) (p : Past) → Each open_ok p → Each (answers_ok n) p → Each retires_ok p → Counted every k p
counted every n k Start o a r = refl
counted every n k (Then p i event) o a r = entry_counted every n k i p event (k == i) refl o.0 a.0 r.0 (counted every n k p o.1 a.1 r.1)

-- where a call ends
advance_retires : (call : Call) (answer : Answer) → suits call answer ≡ true → is_advance call ≡ true → retires_for answer ≡ 0
advance_retires calls.Advance (answers.Clock clock) s h = refl
advance_retires call answer s h = absurd (cc)

none_noted : (noted : Bool) (n : ℕ) → one noted ≡ n → n ≡ 0 → noted ≡ false
none_noted true n e h = absurd (omega (arith, e, h))
none_noted false n e h = refl

due_is : (advance noted due : Bool) (retired before every : ℕ) → due ≡ (if noted then retired % every == 0 else advance) → (advance ≡ true → noted ≡ false)
    → (noted ≡ true → retired ≡ before + 1)
    → due ≡ (if advance then true else noted && (before + 1) % every == 0)
due_is true noted due retired before every e f g = e ∙ ap (λ (x : Bool). if x then retired % every == 0 else true) (f refl)
due_is false true due retired before every e f g = e ∙ ap (λ (n : ℕ). n % every == 0) (g refl)
due_is false false due retired before every e f g = e

one_pending : (t l n : ℕ) (o noted : Bool) → o ≡ true → t ≡ l + pending o n → one noted ≡ n → noted ≡ true → t ≡ l + 1
one_pending t l n true true o h e same = omega (arith, h, e)
one_pending t l n true false o h e same = absurd (cc)
one_pending t l n false noted o h e same = absurd (cc)

pub due_right : (every n k steps : ℕ) (p : Past) (call : Call) (answer : Answer) → Each open_ok p → Each (answers_ok n) p → Each retires_ok p
    → is_open k p ≡ true → retires_ok p k (events.End steps answer) ≡ true → began_of k p ≡ Some call → suits call answer ≡ true
    → (plain_clock every k p).due ≡ (if is_advance call then true else is_some (notes_of k p).retired && (retired_by (log_of k p) + 1) % every == 0)
due_right every n k steps p call answer o a r opened right began s =
    let t : ClockTally = plain_clock every k p in
    let noted : Bool = is_some (notes_of k p).retired in
    let same : retires_of k p ≡ retires_for answer = number_is (retires_of k p) (retires_for answer) right in
    let noting : one noted ≡ retires_of k p = retires_noted k steps p answer right in
    due_is (is_advance call) noted t.due t.retired (retired_by (log_of k p)) every (clock_due every k p call began)
    (λ h. none_noted noted (retires_of k p) noting (same ∙ advance_retires call answer s h))
    (λ h. one_pending t.retired (retired_by (log_of k p)) (retires_of k p) (is_open k p) noted opened (counted every n k p o a r) noting h)
