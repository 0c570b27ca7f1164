-- From a position at which a seat is in no call to a later one: the first call that it ends, and what it meets.
use Rattle.std.proofs.Common.{ℕ, ◌≡◌, Bool, true, false, List, [], ◌∷◌, ◌++◌, refl, sym, ap, ◌∙◌, subst}
use Rattle.std.proofs.lemmas.List.{append-nil, append_assoc, append_cancel_left}
use Rattle.std.specs.Prelude.{◌==◌}
use Rattle.law_scans.proofs.laws.records.defs.Facts.{number_is}
use Rattle.law_scans.specs.inv.model.Desks.{noted}
use Rattle.law_scans.specs.inv.model.Locals.{Group}
use Rattle.law_scans.specs.laws.defs.Entry.{Entry}
use Rattle.law_scans.specs.laws.defs.declared.call.Answer.{Answer}
use Rattle.law_scans.specs.laws.defs.declared.event.Event.{Event}
use Rattle.law_scans.specs.laws.defs.declared.event.Event.TheVariants as events
use Rattle.law_scans.specs.laws.words.declared.config.Config.{Config}
use Rattle.law_scans.specs.laws.StateAt.{is_open}
use Rattle.law_scans.specs.laws.records.Record.{Past, tells}
use Rattle.law_scans.specs.laws.records.Record.Past.{Then}
use Rattle.law_scans.proofs.laws.records.Entries.{each_before}
use Rattle.law_all.specs.Logs.Answered.{Says}
use Rattle.law_all.specs.Logs.Ledgers.{log_of, notes_of}
use Rattle.law_all.specs.Logs.Versions.{AtMost, Counts, counts_of, met_in}
use Rattle.law_all.proofs.Logs.Answered.{says_on}
use Rattle.law_all.proofs.Logs.Counts.{begun_counts, most_along, most_grows, most_same}
use Rattle.law_all.proofs.Logs.Grows.{grows_entry}
use Rattle.law_all.proofs.Logs.Knows.{Answers, Inner, Lawful, answers_of, end_log, end_rises, inner_own, knows, lawful_before, other_inner, own_begun, own_log}

pub lawful_tells : (c : Config) (p : Past) (xs : List Entry) → Lawful c (tells p xs) → Lawful c p
lawful_tells c p xs l = record {
  open_calls = each_before _ p xs l.open_calls;
  told = each_before _ p xs l.told;
  map = each_before _ p xs l.map;
  reasons = each_before _ p xs l.reasons;
  queue = each_before _ p xs l.queue;
  order = each_before _ p xs l.order;
  sources = each_before _ p xs l.sources;
  lists = each_before _ p xs l.lists;
  full = λ s low. each_before _ p xs (l.full s low);
}

-- a call that is under way began at or after the position
record Since (k : ℕ) (first q : Past) : Type 0 where
  counts : AtMost (counts_of first) (counts_of q)
  begun : is_open k q ≡ true → AtMost (counts_of first) (begun_counts k q)

-- the first call has not ended, or it has
data State (c : Config) (k : ℕ) (first q : Past) (before : List Group) : Type 0 where
  Before : log_of k q ≡ before → Since k first q → State c k first q before
  After : (group : Group) (rest : List Group) → log_of k q ≡ before ++ group ∷ rest → Says c (counts_of first) q group.call group.answer → State c k first q before

counts_more : (k : ℕ) (first q : Past) (i : ℕ) (event : Event) → Since k first q → AtMost (counts_of first) (counts_of (Then q i event))
counts_more k first q i event s = most_along (counts_of first) (counts_of q) (counts_of (Then q i event)) s.counts (most_grows q (Then q i event) (grows_entry q i event))

since_inner : (k : ℕ) (first q : Past) (i : ℕ) (event : Event) → Inner k i q event → Since k first q → Since k first (Then q i event)
since_inner k first q i event n s = record {
  counts = counts_more k first q i event s;
  begun = λ o. subst (λ (x : Counts). AtMost (counts_of first) x) (sym n.begun) (s.begun (sym n.opened ∙ o));
}

-- one entry more
said_more : (c : Config) (k i : ℕ) (first q : Past) (event : Event) (before more : List Group) (group : Group) (rest : List Group) → log_of k q ≡ before ++ group ∷ rest → log_of k (Then q i event) ≡ log_of k q ++ more → Says c (counts_of first) q group.call group.answer → State c k first (Then q i event) before
said_more c k i first q event before more group rest l e s =
    After group (rest ++ more) (e ∙ ap (λ (x : List Group). x ++ more) l ∙ append_assoc before (group ∷ rest) more)
    (says_on c (counts_of first) (counts_of first) q (Then q i event) group.call group.answer (most_same (counts_of first)) (grows_entry q i event) s)

state_inner : (c : Config) (k i : ℕ) (first q : Past) (event : Event) (before : List Group) → Inner k i q event → State c k first q before → State c k first (Then q i event) before
state_inner c k i first q event before n (Before l s) = Before (n.log ∙ l) (since_inner k first q i event n s)
state_inner c k i first q event before n (After group rest l s) = said_more c k i first q event before [] group rest l (n.log ∙ sym (append-nil (log_of k q))) s

state_begin : (c : Config) (k : ℕ) (first q : Past) (event : Event) (before : List Group) → log_of k (Then q k event) ≡ log_of k q → begun_counts k (Then q k event) ≡ counts_of q → State c k first q before → State c k first (Then q k event) before
state_begin c k first q event before e b (Before l s) =
    Before (e ∙ l) (record { counts = counts_more k first q k event s; begun = λ o. subst (λ (x : Counts). AtMost (counts_of first) x) (sym b) s.counts })
state_begin c k first q event before e b (After group rest l s) = said_more c k k first q event before [] group rest l (e ∙ sym (append-nil (log_of k q))) s

state_end : (c : Config) (k steps : ℕ) (first q : Past) (answer : Answer) (before : List Group) → is_open k q ≡ true → Answers c k steps q answer → State c k first q before → State c k first (Then q k (events.End steps answer)) before
state_end c k steps first q answer before o a (Before l s) =
    After (record { call = a.call; answer = answer; notes = noted (notes_of k q) (events.End steps answer) }) []
    (end_log c k steps q answer a ∙ ap (λ (x : List Group). x ++ record { call = a.call; answer = answer; notes = noted (notes_of k q) (events.End steps answer) } ∷ []) l)
    (says_on c (counts_of first) (begun_counts k q) q (Then q k (events.End steps answer)) a.call answer (s.begun o) (grows_entry q k (events.End steps answer)) a.says)
state_end c k steps first q answer before o a (After group rest l s) =
    said_more c k k first q (events.End steps answer) before (record { call = a.call; answer = answer; notes = noted (notes_of k q) (events.End steps answer) } ∷ []) group rest l (end_log c k steps q answer a) s

state_own : (c : Config) (k : ℕ) (first q : Past) (event : Event) (before : List Group) → Lawful c (Then q k event) → State c k first q before → State c k first (Then q k event) before
state_own c k first q (events.Begin call) before l s = state_begin c k first q (events.Begin call) before (own_log k q (events.Begin call)) (own_begun k q call) s
state_own c k first q (events.End steps answer) before l s =
    state_end c k steps first q answer before l.open_calls.0 (answers_of c k steps q answer l (knows c k q (lawful_before c q k (events.End steps answer) l))) s
state_own c k first q event before l s = state_inner c k k first q event before (inner_own k q event refl) s

state_entry : (c : Config) (k i : ℕ) (first q : Past) (event : Event) (before : List Group) (same : Bool) → (k == i) ≡ same → Lawful c (Then q i event) → State c k first q before → State c k first (Then q i event) before
state_entry c k i first q event before true e l s =
    let one : k ≡ i = number_is k i e in
    subst (λ (j : ℕ). State c k first (Then q j event) before) one (state_own c k first q event before (subst (λ (j : ℕ). Lawful c (Then q j event)) (sym one) l) s)
state_entry c k i first q event before false e l s = state_inner c k i first q event before (other_inner k i q event e) s

state_tells : (c : Config) (k : ℕ) (first q : Past) (xs : List Entry) (before : List Group) → Lawful c (tells q xs) → State c k first q before → State c k first (tells q xs) before
state_tells c k first q [] before l s = s
state_tells c k first q (x ∷ xs) before l s =
    let next : Past = Then q x.seat x.event in
    state_tells c k first next xs before l (state_entry c k x.seat first q x.event before (k == x.seat) refl (lawful_tells c next xs l) s)

-- the first call
none_more : (before later : List Group) (group : Group) → before ≡ before ++ group ∷ later → ⊥
none_more before later group h =
    let e : [] ≡ group ∷ later = append_cancel_left before [] (group ∷ later) (append-nil before ∙ h) in cc

first_said : (c : Config) (k : ℕ) (first r : Past) (before later : List Group) (group : Group) → log_of k r ≡ before ++ group ∷ later → State c k first r before → Says c (counts_of first) r group.call group.answer
first_said c k first r before later group h (Before l s) = absurd (none_more before later group (sym l ∙ h))
first_said c k first r before later group h (After other rest l s) =
    let e : other ∷ rest ≡ group ∷ later = append_cancel_left before (other ∷ rest) (group ∷ later) (sym l ∙ h) in
    let one : other ≡ group = cc in
    subst (λ (g : Group). Says c (counts_of first) r g.call g.answer) one s

pub first_answers : (c : Config) (k : ℕ) (first : Past) (xs : List Entry) (later : List Group) (group : Group) → Lawful c (tells first xs) → is_open k first ≡ false → log_of k (tells first xs) ≡ log_of k first ++ group ∷ later → Says c (counts_of first) (tells first xs) group.call group.answer
first_answers c k first xs later group l o h =
    first_said c k first (tells first xs) (log_of k first) later group h
    (state_tells c k first first xs (log_of k first) l (Before refl (record { counts = most_same (counts_of first); begun = λ y. absurd (cc) })))

-- what is met never falls
same_rises : (n k : ℕ) (p q : Past) → log_of k q ≡ log_of k p → AtMost (met_in n (log_of k p)) (met_in n (log_of k q))
same_rises n k p q e = subst (λ (x : List Group). AtMost (met_in n (log_of k p)) (met_in n x)) (sym e) (most_same (met_in n (log_of k p)))

own_rises : (c : Config) (k : ℕ) (p : Past) (event : Event) → Lawful c (Then p k event) → AtMost (met_in c.buckets (log_of k p)) (met_in c.buckets (log_of k (Then p k event)))
own_rises c k p (events.End steps answer) l =
    let g = knows c k p (lawful_before c p k (events.End steps answer) l) in
    (end_rises c k steps p answer l g (answers_of c k steps p answer l g)).low
own_rises c k p (events.Begin call) l = same_rises c.buckets k p (Then p k (events.Begin call)) (own_log k p (events.Begin call))
own_rises c k p event l = same_rises c.buckets k p (Then p k event) (own_log k p event)

entry_rises : (c : Config) (k i : ℕ) (p : Past) (event : Event) (same : Bool) → (k == i) ≡ same → Lawful c (Then p i event) → AtMost (met_in c.buckets (log_of k p)) (met_in c.buckets (log_of k (Then p i event)))
entry_rises c k i p event true e l =
    let one : k ≡ i = number_is k i e in
    subst (λ (j : ℕ). AtMost (met_in c.buckets (log_of k p)) (met_in c.buckets (log_of k (Then p j event)))) one (own_rises c k p event (subst (λ (j : ℕ). Lawful c (Then p j event)) (sym one) l))
entry_rises c k i p event false e l = same_rises c.buckets k p (Then p i event) (other_inner k i p event e).log

pub met_rises : (c : Config) (k : ℕ) (p : Past) (xs : List Entry) → Lawful c (tells p xs) → AtMost (met_in c.buckets (log_of k p)) (met_in c.buckets (log_of k (tells p xs)))
met_rises c k p [] l = most_same (met_in c.buckets (log_of k p))
met_rises c k p (x ∷ xs) l =
    let next : Past = Then p x.seat x.event in
    most_along (met_in c.buckets (log_of k p)) (met_in c.buckets (log_of k next)) (met_in c.buckets (log_of k (tells next xs)))
    (entry_rises c k x.seat p x.event (k == x.seat) refl (lawful_tells c next xs l))
    (met_rises c k next xs l)
