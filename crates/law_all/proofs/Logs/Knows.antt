-- What is known of a seat at each position of a record that keeps the laws: what its call has told is so, and its log has met nothing
-- beyond what was counted where the call began.
use Rattle.std.proofs.Common.{ℕ, ◌≡◌, ◌≤◌, Bool, true, false, List, [], ◌∷◌, ◌++◌, Option, Some, None, refl, sym, ap, ◌∙◌, subst}
use Rattle.std.specs.Prelude.{◌==◌}
use Rattle.law_scans.proofs.laws.records.defs.Facts.{rest_of, number_is, same_number}
use Rattle.law_scans.specs.inv.model.Desks.{noted}
use Rattle.law_scans.specs.inv.model.Locals.{Group}
use Rattle.law_scans.specs.laws.defs.declared.call.Answer.{Answer}
use Rattle.law_scans.specs.laws.defs.declared.call.Call.{Call}
use Rattle.law_scans.specs.laws.defs.declared.event.Event.{Event}
use Rattle.law_scans.specs.laws.defs.declared.event.Event.TheVariants as events
use Rattle.law_scans.specs.laws.words.declared.config.Config.{Config}
use Rattle.law_scans.proofs.laws.Tells.{seen_other, seen_own}
use Rattle.law_scans.specs.laws.AnswerLaw.{full_ok, suits}
use Rattle.law_scans.specs.laws.HistoryAnswers.{answer_right, answers_ok, owes, reason, reasons_ok, same_told}
use Rattle.law_scans.specs.laws.HistoryHolds.{sources_ok}
use Rattle.law_scans.specs.laws.Once.{lists_ok, order_ok}
use Rattle.law_scans.specs.laws.Standing.{open_ok}
use Rattle.law_scans.specs.laws.MapLaw.{map_ok}
use Rattle.law_scans.specs.laws.QueueLaw.{queue_ok}
use Rattle.law_scans.specs.laws.StateAt.{began_of, is_open, told_of, with_told, opened_by}
use Rattle.law_scans.specs.laws.records.Record.{Past, Each, begins}
use Rattle.law_scans.specs.laws.records.Record.Past.{Start, Then}
use Rattle.law_scans.proofs.inv.Machines.{is_within}
use Rattle.law_all.specs.Logs.Answered.{Says, SaysOfRows}
use Rattle.law_all.specs.Logs.Ledgers.{Ledger, left_by, ledger_by, ledger_of, log_of, no_ledger, notes_of}
use Rattle.law_all.specs.Logs.Versions.{AtMost, Counts, counts_of, met_in}
use Rattle.law_all.proofs.Logs.Counts.{begun_counts, begun_most, begun_unless, most_along, most_grows, most_same}
use Rattle.law_all.proofs.Logs.Grows.{grows_entry}
use Rattle.law_all.proofs.Logs.Heard.{AllHeard, all_on, heard_now, told_more}
use Rattle.law_all.proofs.Logs.Holds.{told_row}
use Rattle.law_all.proofs.Logs.Ledgers.{ledger_began}
use Rattle.law_all.proofs.Logs.Lists.{all_told}
use Rattle.law_all.proofs.Logs.Meets.{Rises, call_rises, logs_extend}
use Rattle.law_all.proofs.Logs.Says.{rows_now, says_now}
use Rattle.law_all.proofs.Logs.Shows.{shown_version}

-- the laws that a record keeps, by recursion
pub record Lawful (c : Config) (r : Past) : Type 0 where
  pub open_calls : Each open_ok r
  pub told : Each (answers_ok c.buckets) r
  pub map : Each (map_ok c.buckets) r
  pub reasons : Each (reasons_ok c) r
  pub queue : Each queue_ok r
  pub order : Each (order_ok c.slots) r
  pub sources : Each (sources_ok c) r
  pub lists : Each lists_ok r
  pub full : (s : ℕ) → s ≤ c.slots → Each (full_ok c s) r

pub lawful_before : (c : Config) (p : Past) (i : ℕ) (event : Event) → Lawful c (Then p i event) → Lawful c p
lawful_before c p i event l = record {
  open_calls = l.open_calls.1;
  told = l.told.1;
  map = l.map.1;
  reasons = l.reasons.1;
  queue = l.queue.1;
  order = l.order.1;
  sources = l.sources.1;
  lists = l.lists.1;
  full = λ s low. (l.full s low).1;
}

pub record Knows (n k : ℕ) (p : Past) : Type 0 where
  pub met : AtMost (met_in n (log_of k p)) (counts_of p)
  pub before : is_open k p ≡ true → AtMost (met_in n (log_of k p)) (begun_counts k p)
  pub heard : AllHeard n (begun_counts k p) p (told_of k p)

-- an entry that neither begins nor ends a call of the seat
pub record Inner (k i : ℕ) (p : Past) (event : Event) : Type 0 where
  pub begun : begun_counts k (Then p i event) ≡ begun_counts k p
  pub log : log_of k (Then p i event) ≡ log_of k p
  pub opened : is_open k (Then p i event) ≡ is_open k p

knows_inner : (n k i : ℕ) (p : Past) (event : Event) → Inner k i p event → AllHeard n (begun_counts k p) (Then p i event) (told_of k (Then p i event)) → Knows n k p → Knows n k (Then p i event)
knows_inner n k i p event q h g =
    let up : AtMost (counts_of p) (counts_of (Then p i event)) = most_grows p (Then p i event) (grows_entry p i event) in
    record {
      met = subst (λ (x : List Group). AtMost (met_in n x) (counts_of (Then p i event))) (sym q.log) (most_along (met_in n (log_of k p)) (counts_of p) (counts_of (Then p i event)) g.met up);
      before = λ o. subst (λ (x : List Group). AtMost (met_in n x) (begun_counts k (Then p i event))) (sym q.log)
          (subst (λ (x : Counts). AtMost (met_in n (log_of k p)) x) (sym q.begun) (g.before (sym q.opened ∙ o)));
      heard = subst (λ (x : Counts). AllHeard n x (Then p i event) (told_of k (Then p i event))) (sym q.begun) h;
    }

-- of another seat
other_begins : (k i : ℕ) (p : Past) (event : Event) → (k == i) ≡ false → begins k p i event ≡ false
other_begins k i p (events.Begin call) e = e
other_begins k i p event e = refl

pub other_inner : (k i : ℕ) (p : Past) (event : Event) → (k == i) ≡ false → Inner k i p event
other_inner k i p event e = record {
  begun = begun_unless k i p event (other_begins k i p event e);
  log = ap (λ (x : Ledger). x.log) (seen_other ledger_by no_ledger k i p event e);
  opened = rw e refl;
}

pub other_told : (k i : ℕ) (p : Past) (event : Event) → (k == i) ≡ false → told_of k (Then p i event) ≡ told_of k p
other_told k i p event e = rw e refl

knows_other : (n k i : ℕ) (p : Past) (event : Event) → (k == i) ≡ false → Knows n k p → Knows n k (Then p i event)
knows_other n k i p event e g =
    knows_inner n k i p event (other_inner k i p event e)
    (subst (λ (x : List Event). AllHeard n (begun_counts k p) (Then p i event) x) (sym (other_told k i p event e)) (all_on n (begun_counts k p) (begun_counts k p) p (Then p i event) (told_of k p) (most_same (begun_counts k p)) (grows_entry p i event) g.heard))
    g

-- of the seat
pub own_log : (k : ℕ) (p : Past) (event : Event) → log_of k (Then p k event) ≡ (ledger_by event (ledger_of k p)).log
own_log k p event = ap (λ (x : Ledger). x.log) (seen_own ledger_by no_ledger k p event)

pub own_open : (k : ℕ) (p : Past) (event : Event) → is_open k (Then p k event) ≡ opened_by event (is_open k p)
own_open k p event = rw (same_number k) refl

pub own_told : (k : ℕ) (p : Past) (event : Event) → told_of k (Then p k event) ≡ with_told event (told_of k p)
own_told k p event = rw (same_number k) refl

pub own_begun : (k : ℕ) (p : Past) (call : Call) → begun_counts k (Then p k (events.Begin call)) ≡ counts_of p
own_begun k p call = rw (same_number k) refl

knows_begin : (n k : ℕ) (p : Past) (call : Call) → Knows n k p → Knows n k (Then p k (events.Begin call))
knows_begin n k p call g =
    let l : log_of k (Then p k (events.Begin call)) ≡ log_of k p = own_log k p (events.Begin call) in
    let b = own_begun k p call in
    record {
      met = subst (λ (x : List Group). AtMost (met_in n x) (counts_of p)) (sym l) g.met;
      before = λ o. subst (λ (x : List Group). AtMost (met_in n x) (begun_counts k (Then p k (events.Begin call)))) (sym l) (subst (λ (x : Counts). AtMost (met_in n (log_of k p)) x) (sym b) g.met);
      heard = subst (λ (x : List Event). AllHeard n (begun_counts k (Then p k (events.Begin call))) (Then p k (events.Begin call)) x) (sym (own_told k p (events.Begin call))) tt;
    }

-- where a call ends
pub record Answers (c : Config) (k steps : ℕ) (p : Past) (answer : Answer) : Type 0 where
  pub call : Call
  pub began : began_of k p ≡ Some call
  pub says : Says c (begun_counts k p) p call answer
  pub rows : SaysOfRows c k p call answer

answers_by : (c : Config) (k steps : ℕ) (p : Past) (answer : Answer) (began : Option Call) → began_of k p ≡ began → answer_right c.buckets began (told_of k p) answer ≡ true → reason c k p began answer ≡ true → Lawful c (Then p k (events.End steps answer)) → Knows c.buckets k p → Answers c k steps p answer
answers_by c k steps p answer None e h r l g = absurd (cc)
answers_by c k steps p answer (Some call) e h r l g = record {
  call = call;
  began = e;
  says = says_now c k p call answer (told_of k p) (rest_of (suits call answer) (same_told (told_of k p) (owes c.buckets call answer)) h) r (begun_most k p) g.heard
      (λ key slot same held. told_row c k p key slot l.order.1 l.sources.1 (e ∙ ap (λ (x : Call). Some x) same) held)
      (all_told k p l.open_calls.1 l.lists.1)
      (λ slot bucket version shows. shown_version c.buckets c.slots slot bucket version p l.order.1 l.map.1 shows);
  rows = rows_now c k steps p call answer (told_of k p) (rest_of (suits call answer) (same_told (told_of k p) (owes c.buckets call answer)) h) r (all_told k p l.open_calls.1 l.lists.1) (λ s low. (l.full s low).0);
}

pub answers_of : (c : Config) (k steps : ℕ) (p : Past) (answer : Answer) → Lawful c (Then p k (events.End steps answer)) → Knows c.buckets k p → Answers c k steps p answer
answers_of c k steps p answer l g = answers_by c k steps p answer (began_of k p) refl l.told.0 l.reasons.0 l g

-- the log has one group more
pub end_log : (c : Config) (k steps : ℕ) (p : Past) (answer : Answer) (a : Answers c k steps p answer) → log_of k (Then p k (events.End steps answer)) ≡ log_of k p ++ record { call = a.call; answer = answer; notes = noted (notes_of k p) (events.End steps answer) } ∷ []
end_log c k steps p answer a =
    own_log k p (events.End steps answer) ∙ ap (λ (x : Option Call). log_of k p ++ left_by x answer (noted (notes_of k p) (events.End steps answer))) (ledger_began k p ∙ a.began)

pub end_rises : (c : Config) (k steps : ℕ) (p : Past) (answer : Answer) → Lawful c (Then p k (events.End steps answer)) → Knows c.buckets k p → Answers c k steps p answer → Rises (met_in c.buckets (log_of k p)) (met_in c.buckets (log_of k (Then p k (events.End steps answer)))) (counts_of p)
end_rises c k steps p answer l g a =
    let log : List Group = log_of k p in
    let group : Group = record { call = a.call; answer = answer; notes = noted (notes_of k p) (events.End steps answer) } in
    let r = call_rises c (begun_counts k p) p a.call answer (met_in c.buckets log) a.says (g.before l.open_calls.0) (begun_most k p) in
    subst (λ (x : List Group). Rises (met_in c.buckets log) (met_in c.buckets x) (counts_of p)) (sym (end_log c k steps p answer a))
    (subst (λ (x : Counts). Rises (met_in c.buckets log) x (counts_of p)) (sym (logs_extend c.buckets log group)) r)

knows_end : (c : Config) (k steps : ℕ) (p : Past) (answer : Answer) → Lawful c (Then p k (events.End steps answer)) → Knows c.buckets k p → Knows c.buckets k (Then p k (events.End steps answer))
knows_end c k steps p answer l g =
    let e : Event = events.End steps answer in
    let r = end_rises c k steps p answer l g (answers_of c k steps p answer l g) in
    record {
      met = r.high;
      before = λ o. let closed : false ≡ true = sym (own_open k p e) ∙ o in absurd (cc);
      heard = subst (λ (x : List Event). AllHeard c.buckets (begun_counts k p) (Then p k e) x) (sym (own_told k p e)) (all_on c.buckets (begun_counts k p) (begun_counts k p) p (Then p k e) (told_of k p) (most_same (begun_counts k p)) (grows_entry p k e) g.heard);
    }

-- any other entry
abbrev pub is_inner : Event → Bool
is_inner (events.Begin call) = false
is_inner (events.End steps answer) = false
is_inner event = true

pub inner_own : (k : ℕ) (p : Past) (event : Event) → is_inner event ≡ true → Inner k k p event
inner_own k p (events.Begin call) h = absurd (cc)
inner_own k p (events.End steps answer) h = absurd (cc)
inner_own k p event h = record { begun = refl; log = own_log k p event; opened = own_open k p event }

inner_within : (event : Event) → is_inner event ≡ true → is_within event ≡ true
inner_within (events.Begin call) h = absurd (cc)
inner_within event h = refl

knows_more : (c : Config) (k : ℕ) (p : Past) (event : Event) → is_inner event ≡ true → Lawful c (Then p k event) → Knows c.buckets k p → Knows c.buckets k (Then p k event)
knows_more c k p event h l g =
    let n : ℕ = c.buckets in
    knows_inner n k k p event (inner_own k p event h)
    (subst (λ (x : List Event). AllHeard n (begun_counts k p) (Then p k event) x) (sym (own_told k p event))
    (told_more n (begun_counts k p) (Then p k event) (told_of k p) event (inner_within event h) (all_on n (begun_counts k p) (begun_counts k p) p (Then p k event) (told_of k p) (most_same (begun_counts k p)) (grows_entry p k event) g.heard)
    (heard_now n k p event l.map.0 l.queue.0 (begun_most k p))))
    g

knows_own : (c : Config) (k : ℕ) (p : Past) (event : Event) → Lawful c (Then p k event) → Knows c.buckets k p → Knows c.buckets k (Then p k event)
knows_own c k p (events.Begin call) l g = knows_begin c.buckets k p call g
knows_own c k p (events.End steps answer) l g = knows_end c k steps p answer l g
knows_own c k p event l g = knows_more c k p event refl l g

knows_entry : (c : Config) (k i : ℕ) (p : Past) (event : Event) (same : Bool) → (k == i) ≡ same → Lawful c (Then p i event) → Knows c.buckets k p → Knows c.buckets k (Then p i event)
knows_entry c k i p event true e l g =
    let one : k ≡ i = number_is k i e in
    subst (λ (j : ℕ). Knows c.buckets k (Then p j event)) one (knows_own c k p event (subst (λ (j : ℕ). Lawful c (Then p j event)) (sym one) l) g)
knows_entry c k i p event false e l g = knows_other c.buckets k i p event e g

pub knows : (c : Config) (k : ℕ) (p : Past) → Lawful c p → Knows c.buckets k p
knows c k Start l = record { met = most_same (counts_of Start); before = λ o. absurd (cc); heard = tt }
knows c k (Then p i event) l = knows_entry c k i p event (k == i) refl l (knows c k p (lawful_before c p i event l))
