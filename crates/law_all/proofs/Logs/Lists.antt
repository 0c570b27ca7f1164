-- What a call has told of lists is so, by the laws of the record; and where it took none over, why.
use Rattle.std.proofs.Common.{ℕ, ◌≡◌, ◌<◌, ◌⊎◌, inl, inr, zero, suc, Bool, true, false, List, [], ◌∷◌, ◌++◌, length, Option, Some, None, refl, sym, ap, ◌∙◌, subst, arith}
use Rattle.std.proofs.lemmas.Bool.Decides.{nat_tests}
use Rattle.std.specs.Prelude.{◌==◌, ◌&&◌, ◌||◌, not, is_none, if◌then◌else◌}
use Rattle.law_scans.proofs.laws.records.defs.Facts.{either_true, false_of_not, first_of, number_is, rest_of, same_number}
use Rattle.law_scans.specs.laws.defs.Entry.{Entry}
use Rattle.law_scans.specs.laws.defs.declared.call.Call.{Call}
use Rattle.law_scans.specs.laws.defs.declared.call.Call.TheVariants as calls
use Rattle.law_scans.specs.laws.defs.declared.event.Event.{Event}
use Rattle.law_scans.specs.laws.defs.declared.event.Event.TheVariants as events
use Rattle.law_scans.specs.laws.words.declared.config.Config.{Config}
use Rattle.law_scans.specs.laws.AnswerLaw.{adopted_else, same_event, stayed}
use Rattle.law_scans.specs.laws.HistoryAnswers.{is_bare_below, same_told}
use Rattle.law_scans.specs.laws.Once.{is_adopt, lists_ok}
use Rattle.law_scans.specs.laws.Standing.{is_leave, open_ok}
use Rattle.law_scans.specs.laws.Lists.{adopts, has_left, is_adopted, is_left, list_of}
use Rattle.law_scans.specs.laws.StateAt.{began_by, began_of, is_open, opened_by, stood_at, told_of, with_told}
use Rattle.law_scans.specs.laws.records.Record.{Each, Past, begins, held_since, tells}
use Rattle.law_scans.specs.laws.records.Record.Past.{Start, Then}
use Rattle.law_all.specs.Logs.Answered.{IsGone, IsHanded, IsStaying, IsTakenOver}
use Rattle.law_all.specs.Logs.Versions.{Counts, counts_of}
use Rattle.law_all.proofs.Logs.Answered.{adopted_tells, left_tells, staying_on}
use Rattle.law_all.proofs.Logs.Counts.{begun_counts, begun_most, begun_unless, most_same}
use Rattle.law_all.proofs.Logs.Grows.{grows_entry, snoc_tells}

-- the event was told by the seat at this position, by the laws up to it
pub record Told (k : ℕ) (p : Past) (event : Event) : Type 0 where
  pub before : Past
  pub later : List Entry
  pub cut : p ≡ tells (Then before k event) later
  pub opens : Each open_ok (Then before k event)
  pub lists : Each lists_ok (Then before k event)

abbrev pub AllTold : ℕ → Past → List Event → Type 0
AllTold k p [] = Unit {0}
AllTold k p (event ∷ told) = Told k p event × AllTold k p told

told_later : (k i : ℕ) (p : Past) (event other : Event) → Told k p event → Told k (Then p i other) event
told_later k i p event other t =
    let x : Entry = record { seat = i; event = other } in
    record {
      before = t.before;
      later = t.later ++ x ∷ [];
      cut = ap (λ (q : Past). Then q i other) t.cut ∙ sym (snoc_tells t.later x (Then t.before k event));
      opens = t.opens;
      lists = t.lists;
    }

all_later : (k i : ℕ) (p : Past) (told : List Event) (other : Event) → AllTold k p told → AllTold k (Then p i other) told
all_later k i p [] other h = tt
all_later k i p (event ∷ told) other h = (told_later k i p event other h.0, all_later k i p told other h.1)

all_more : (k : ℕ) (p : Past) (told : List Event) (event : Event) → AllTold k p told → Told k p event → AllTold k p (told ++ event ∷ [])
all_more k p [] event h e = (e, tt)
all_more k p (first ∷ told) event h e = (h.0, all_more k p told event h.1 e)

all_with : (k : ℕ) (p : Past) (told : List Event) (event : Event) → AllTold k p told → Told k p event → AllTold k p (with_told event told)
all_with k p told (events.Begin call) h e = tt
all_with k p told (events.Got bucket version key value) h e = all_more k p told (events.Got bucket version key value) h e
all_with k p told (events.Put bucket version key value) h e = all_more k p told (events.Put bucket version key value) h e
all_with k p told (events.Removed bucket version key) h e = all_more k p told (events.Removed bucket version key) h e
all_with k p told (events.Queued number value) h e = all_more k p told (events.Queued number value) h e
all_with k p told (events.Taken number value) h e = all_more k p told (events.Taken number value) h e
all_with k p told (events.Copied index to slot) h e = all_more k p told (events.Copied index to slot) h e
all_with k p told (events.Left count) h e = all_more k p told (events.Left count) h e
all_with k p told (events.Adopted place count) h e = all_more k p told (events.Adopted place count) h e
all_with k p told event h e = h

all_own : (k : ℕ) (p : Past) (event : Event) → Each open_ok (Then p k event) → Each lists_ok (Then p k event) → AllTold k p (told_of k p) → AllTold k (Then p k event) (told_of k (Then p k event))
all_own k p event o l h =
    let own : told_of k (Then p k event) ≡ with_told event (told_of k p) = rw (same_number k) refl in
    subst (AllTold k (Then p k event)) (sym own)
    (all_with k (Then p k event) (told_of k p) event (all_later k k p (told_of k p) event h) (record { before = p; later = []; cut = refl; opens = o; lists = l }))

all_entry : (k i : ℕ) (p : Past) (event : Event) (same : Bool) → (k == i) ≡ same → Each open_ok (Then p i event) → Each lists_ok (Then p i event) → AllTold k p (told_of k p) → AllTold k (Then p i event) (told_of k (Then p i event))
all_entry k i p event true e o l h =
    let one : k ≡ i = number_is k i e in
    subst (λ (j : ℕ). AllTold k (Then p j event) (told_of k (Then p j event))) one
    (all_own k p event (subst (λ (j : ℕ). Each open_ok (Then p j event)) (sym one) o) (subst (λ (j : ℕ). Each lists_ok (Then p j event)) (sym one) l) h)
all_entry k i p event false e o l h =
    let other : told_of k (Then p i event) ≡ told_of k p = rw e refl in
    subst (AllTold k (Then p i event)) (sym other) (all_later k i p (told_of k p) event h)

pub all_told : (k : ℕ) (p : Past) → Each open_ok p → Each lists_ok p → AllTold k p (told_of k p)
all_told k Start o l = tt
all_told k (Then p i event) o l = all_entry k i p event (k == i) refl o l (all_told k p o.1 l.1)

-- what a call that owes one event has told
pub told_one : (k : ℕ) (p : Past) (event : Event) (told : List Event) → ((other : Event) → same_event other event ≡ true → other ≡ event) → same_told told (event ∷ []) ≡ true → AllTold k p told → Told k p event
told_one k p event [] f h a = absurd (cc)
told_one k p event (other ∷ []) f h a = subst (Told k p) (f other (first_of (same_event other event) true h)) a.0
told_one k p event (other ∷ more ∷ told) f h a = let r = rest_of (same_event other event) (same_told (more ∷ told) []) h in absurd (cc)

pub same_left : (count : ℕ) (other : Event) → same_event other (events.Left count) ≡ true → other ≡ events.Left count
same_left count (events.Left own) h = ap events.Left (number_is own count h)
same_left count other h = absurd (cc)

pub same_adopted : (place count : ℕ) (other : Event) → same_event other (events.Adopted place count) ≡ true → other ≡ events.Adopted place count
same_adopted place count (events.Adopted from own) h =
    let e1 = number_is from place (first_of (from == place) (own == count) h) in
    let e2 = number_is own count (rest_of (from == place) (own == count) h) in cc
same_adopted place count other h = absurd (cc)

-- a seat that left
none_of : (x : Option ℕ) → is_none x ≡ true → x ≡ None
none_of None e = refl
none_of (Some slot) e = absurd (cc)

below_of : (j n : ℕ) → j < suc n → (j == n) ≡ false → j < n
below_of j n l e = grind (arith, nat_tests)

bare_below : (n k j : ℕ) (p : Past) → is_bare_below n k p ≡ true → j < n → stood_at k j p ≡ None
bare_below zero k j p h l = absurd (grind (arith, nat_tests))
bare_below (suc n) k j p h l = by (j == n) refl (λ low. bare_below n k j p (rest_of (is_none (stood_at k n p)) (is_bare_below n k p) h) low)
  where
    by : (same : Bool) → (j == n) ≡ same → (j < n → stood_at k j p ≡ None) → stood_at k j p ≡ None
    by true e g = ap (λ (m : ℕ). stood_at k m p) (number_is j n e) ∙ none_of (stood_at k n p) (first_of (is_none (stood_at k n p)) (is_bare_below n k p) h)
    by false e g = g (below_of j n l e)

or_first : (a b : Bool) → a ≡ true → (a || b) ≡ true
or_first true b h = refl
or_first false b h = absurd (cc)

pub gone_now : (c : Config) (k : ℕ) (p : Past) (count : ℕ) → Told k p (events.Left count) → is_bare_below c.indexes k p ≡ true → IsGone c k p count
gone_now c k p count t r =
    let l = t.lists.0 in
    record {
      before = t.before;
      later = t.later;
      cut = t.cut;
      long = number_is count (length (list_of k t.before)) (rest_of (is_leave (began_of k t.before)) (count == length (list_of k t.before)) l);
      left = ap (has_left k) t.cut ∙ left_tells k t.later (Then t.before k (events.Left count)) (or_first (k == k) (has_left k t.before) (same_number k));
      bare = λ j low. bare_below c.indexes k j p r low;
    }

-- a seat that has left is in the call by which it leaves, or in none
leave_own : (k : ℕ) (p : Past) (event : Event) (own : Bool) → open_ok p k event ≡ true → lists_ok p k event ≡ true → (is_open k p ≡ true → has_left k p ≡ true → is_leave (began_of k p) ≡ true)
    → opened_by event (is_open k p) ≡ true → (is_left event && own || has_left k p) ≡ true → is_leave (began_by event (began_of k p)) ≡ true
leave_own k p (events.Begin call) own o l g y h =
    let none : has_left k p ≡ false = false_of_not (has_left k p) (rest_of (not (is_open k p)) (not (has_left k p)) o) in
    let both : true ≡ false = sym h ∙ none in absurd (cc)
leave_own k p (events.End steps answer) own o l g y h = absurd (cc)
leave_own k p (events.Left count) own o l g y h = first_of (is_leave (began_of k p)) (count == length (list_of k p)) l
leave_own k p event own o l g y h = g y h

left_other : (left before : Bool) → (left && false || before) ≡ true → before ≡ true
left_other true before h = h
left_other false before h = h

leave_more : (k i : ℕ) (p : Past) (event : Event) (same : Bool) → (k == i) ≡ same → open_ok p i event ≡ true → lists_ok p i event ≡ true → (is_open k p ≡ true → has_left k p ≡ true → is_leave (began_of k p) ≡ true)
    → is_open k (Then p i event) ≡ true → has_left k (Then p i event) ≡ true → is_leave (began_of k (Then p i event)) ≡ true
leave_more k i p event true e o l g y h =
    let one : i ≡ k = sym (number_is k i e) in
    let opened : opened_by event (is_open k p) ≡ true = rw e at y in
    rw e (leave_own k p event (k == i) (subst (λ (j : ℕ). open_ok p j event ≡ true) one o) (subst (λ (j : ℕ). lists_ok p j event ≡ true) one l) g opened h)
leave_more k i p event false e o l g y h =
    let opened : is_open k p ≡ true = rw e at y in
    let left : (is_left event && false || has_left k p) ≡ true = rw e at h in
    rw e (g opened (left_other (is_left event) (has_left k p) left))

pub leaves_open : (k : ℕ) (p : Past) → Each open_ok p → Each lists_ok p → is_open k p ≡ true → has_left k p ≡ true → is_leave (began_of k p) ≡ true
leaves_open k Start o l y h = absurd (cc)
leaves_open k (Then p i event) o l y h = leave_more k i p event (k == i) refl o.0 l.0 (λ a b. leaves_open k p o.1 l.1 a b) y h

apart_calls : (place : ℕ) (x : Option Call) → is_adopt place x ≡ true → is_leave x ≡ true → ⊥
apart_calls place (Some (calls.Adopt other)) a b = cc
apart_calls place x a b = cc

-- a list that was taken over
record Takes (k place count : ℕ) (p : Past) : Type 0 where
  call : is_adopt place (began_of k p) ≡ true
  left : has_left place p ≡ true
  first : is_adopted place p ≡ false
  long : count ≡ length (list_of place p)

takes_of : (k place count : ℕ) (p : Past) → lists_ok p k (events.Adopted place count) ≡ true → Takes k place count p
takes_of k place count p h =
    let a : Bool = is_adopt place (began_of k p) in
    let rest : Bool = not (is_adopted place p) && count == length (list_of place p) in
    let x = rest_of a (has_left place p && rest) h in
    let y = rest_of (has_left place p) rest x in
    record {
      call = first_of a (has_left place p && rest) h;
      left = first_of (has_left place p) rest x;
      first = false_of_not (is_adopted place p) (first_of (not (is_adopted place p)) (count == length (list_of place p)) y);
      long = number_is count (length (list_of place p)) (rest_of (not (is_adopted place p)) (count == length (list_of place p)) y);
    }

pub handed_now : (k : ℕ) (p : Past) (place count : ℕ) → Told k p (events.Adopted place count) → IsHanded place p
handed_now k p place count t =
    let event : Event = events.Adopted place count in
    let x = takes_of k place count t.before t.lists.0 in
    record {
      left = ap (has_left place) t.cut ∙ left_tells place t.later (Then t.before k event) x.left;
      adopted = ap (is_adopted place) t.cut ∙ adopted_tells place t.later (Then t.before k event) (or_first (place == place) (is_adopted place t.before) (same_number place));
    }

pub taken_over : (k : ℕ) (p : Past) (place count : ℕ) → Told k p (events.Adopted place count) → IsTakenOver k place p count
taken_over k p place count t =
    let x = takes_of k place count t.before t.lists.0 in
    record {
      before = t.before;
      later = t.later;
      cut = t.cut;
      left = x.left;
      first = x.first;
      long = x.long;
      gains = rw (same_number k) refl;
      hands = apart (place == k) refl;
    }
  where
    apart : (same : Bool) → (place == k) ≡ same → list_of place (Then t.before k (events.Adopted place count)) ≡ []
    apart true e =
        let x = takes_of k place count t.before t.lists.0 in
        let own : has_left k t.before ≡ true = subst (λ (j : ℕ). has_left j t.before ≡ true) (number_is place k e) x.left in
        absurd (apart_calls place (began_of k t.before) x.call (leaves_open k t.before t.opens.1 t.lists.1 t.opens.0 own))
    apart false e = rw (e, same_number place) refl

-- where a list was not taken over, its seat had not left at a position of the call
staying_entry : (k i place : ℕ) (p : Past) (event : Event) → (stayed place (Then p i event) ≡ true) ⊎ ((not (begins k p i event) && held_since (begins k) (stayed place) p) ≡ true) → (held_since (begins k) (stayed place) p ≡ true → IsStaying (begun_counts k p) p place) → IsStaying (begun_counts k (Then p i event)) (Then p i event) place
staying_entry k i place p event (inl h) f = record {
  at = Then p i event;
  later = [];
  cut = refl;
  since = begun_most k (Then p i event);
  stays = false_of_not (has_left place (Then p i event)) h;
}
staying_entry k i place p event (inr h) f =
    let e : begins k p i event ≡ false = false_of_not (begins k p i event) (first_of (not (begins k p i event)) (held_since (begins k) (stayed place) p) h) in
    subst (λ (x : Counts). IsStaying x (Then p i event) place) (sym (begun_unless k i p event e))
    (staying_on (begun_counts k p) (begun_counts k p) p (Then p i event) place (most_same (begun_counts k p)) (grows_entry p i event) (f (rest_of (not (begins k p i event)) (held_since (begins k) (stayed place) p) h)))

pub staying_now : (k : ℕ) (p : Past) (place : ℕ) → held_since (begins k) (stayed place) p ≡ true → IsStaying (begun_counts k p) p place
staying_now k Start place h = record { at = Start; later = []; cut = refl; since = most_same (counts_of Start); stays = refl }
staying_now k (Then p i event) place h =
    staying_entry k i place p event (either_true (stayed place (Then p i event)) (not (begins k p i event) && held_since (begins k) (stayed place) p) h) (λ g. staying_now k p place g)

-- or another call has taken it over
else_adopted : (own begun hands before more : Bool) → (more ≡ true → before ≡ true) → (if begun then before else (own && hands) || more) ≡ true → (hands || before) ≡ true
else_adopted own true true before more f h = refl
else_adopted own true false before more f h = h
else_adopted own false true before more f h = refl
else_adopted true false false before more f h = f h
else_adopted false false false before more f h = f h

pub adopted_now : (k place : ℕ) (p : Past) → adopted_else k place p ≡ true → is_adopted place p ≡ true
adopted_now k place Start h = absurd (cc)
adopted_now k place (Then p i event) h = else_adopted (not (k == i)) (begins k p i event) (adopts place event) (is_adopted place p) (adopted_else k place p) (λ g. adopted_now k place p g) h
