-- What a call has told of the map and of the queue is so, by the laws of the record, and stays so.
use Rattle.std.proofs.Common.{ℕ, ◌≡◌, ◌≤◌, ◌<◌, ◌+◌, ◌-◌, Bool, true, List, [], ◌∷◌, ◌++◌, length, get_or, Option, Some, None, refl, sym, ap, ◌∙◌, subst, arith, length-append}
use Rattle.std.proofs.Math.Seq.{get_or-append_seam}
use Rattle.std.proofs.lemmas.List.{get_or_append_left}
use Rattle.std.specs.Prelude.{◌==◌, ◌&&◌, nat_le, slice_index_or}
use Rattle.law_scans.proofs.laws.records.defs.Facts.{first_of, rest_of, number_is, le_of_test, same_number}
use Rattle.law_scans.specs.laws.defs.declared.event.Event.{Event}
use Rattle.law_scans.specs.laws.defs.declared.event.Event.TheVariants as events
use Rattle.law_scans.specs.laws.defs.declared.fold.Change.{Change}
use Rattle.law_scans.specs.laws.defs.declared.fold.Change.TheVariants as changes
use Rattle.law_scans.specs.laws.AnswerLaw.{same_event}
use Rattle.law_scans.specs.laws.HistoryAnswers.{same_told}
use Rattle.law_scans.specs.laws.MapLaw.{map_ok}
use Rattle.law_scans.specs.laws.QueueLaw.{queue_ok}
use Rattle.law_scans.specs.laws.StateAt.{with_told}
use Rattle.law_scans.specs.laws.StructuresAt.{begun_at, bucket_of, changes_of, count_of, queued_of, same_value, taken_of, value_at, was_current}
use Rattle.law_scans.specs.laws.records.Record.{Past}
use Rattle.law_scans.specs.laws.records.Record.Past.{Then}
use Rattle.law_scans.proofs.inv.Machines.{is_within}
use Rattle.law_all.specs.Logs.Answered.{IsGot, IsMet, IsTaken}
use Rattle.law_all.specs.Logs.Versions.{AtMost, Counts, counts_of}
use Rattle.law_all.proofs.Logs.Answered.{got_on, met_on, taken_on}
use Rattle.law_all.proofs.Logs.Counts.{begun_counts}
use Rattle.law_all.proofs.Logs.Grows.{Grows, grows_entry, more_queued, same_queued}

-- a get, in the bucket of its key
pub record GotHeard (n : ℕ) (from : Counts) (p : Past) (b key version : ℕ) (value : Option ℕ) : Type 0 where
  pub place : b ≡ bucket_of n key
  pub got : IsGot from p b key version value

-- a change, which is the one of its version
pub record ChangeHeard (n : ℕ) (from : Counts) (p : Past) (b key version : ℕ) (change : Change) : Type 0 where
  pub place : b ≡ bucket_of n key
  pub met : IsMet from p b version
  pub later : from.versions b < version
  pub here : get_or (changes_of b p) (version - 1) change ≡ change

-- a value queued, which is the one of its number
pub record QueuedHeard (from : Counts) (p : Past) (number value : ℕ) : Type 0 where
  pub since : from.queued < number
  pub until : number ≤ length (queued_of p)
  pub value_is : value ≡ slice_index_or (queued_of p) (number - 1) 0

abbrev pub Heard : ℕ → Counts → Past → Event → Type 0
Heard n from p (events.Got b version key value) = GotHeard n from p b key version value
Heard n from p (events.Put b version key value) = ChangeHeard n from p b key version (changes.Put key value)
Heard n from p (events.Removed b version key) = ChangeHeard n from p b key version (changes.Removed key)
Heard n from p (events.Queued number value) = QueuedHeard from p number value
Heard n from p (events.Taken number value) = IsTaken from p number value
Heard n from p event = Unit {0}

abbrev pub AllHeard : ℕ → Counts → Past → List Event → Type 0
AllHeard n from p [] = Unit {0}
AllHeard n from p (event ∷ told) = Heard n from p event × AllHeard n from p told

-- it stays so
change_on : (n : ℕ) (low from : Counts) (p q : Past) (b key version : ℕ) (change : Change) → AtMost low from → Grows p q → ChangeHeard n from p b key version change → ChangeHeard n low q b key version change
change_on n low from p q b key version change a g s =
    let m = g.changes b in
    let l = a.versions b in
    let within : version - 1 < length (changes_of b p) = omega (arith, s.later, s.met.until) in
    record {
      place = s.place;
      met = met_on low from p q b version a g s.met;
      later = omega (arith, l, s.later);
      here = ap (λ (all : List Change). get_or all (version - 1) change) m.1 ∙ get_or_append_left (changes_of b p) m.0 change (version - 1) within ∙ s.here;
    }

queued_on : (low from : Counts) (p q : Past) (number value : ℕ) → AtMost low from → Grows p q → QueuedHeard from p number value → QueuedHeard low q number value
queued_on low from p q number value a g s =
    let m = more_queued p q g in
    let within : number - 1 < length (queued_of p) = omega (arith, s.since, s.until) in
    record { since = omega (arith, a.queued, s.since); until = omega (arith, m, s.until); value_is = s.value_is ∙ sym (same_queued (number - 1) p q g within) }

heard_on : (n : ℕ) (low from : Counts) (p q : Past) (event : Event) → AtMost low from → Grows p q → Heard n from p event → Heard n low q event
heard_on n low from p q (events.Got b version key value) a g h = record { place = h.place; got = got_on low from p q b key version value a g h.got }
heard_on n low from p q (events.Put b version key value) a g h = change_on n low from p q b key version (changes.Put key value) a g h
heard_on n low from p q (events.Removed b version key) a g h = change_on n low from p q b key version (changes.Removed key) a g h
heard_on n low from p q (events.Queued number value) a g h = queued_on low from p q number value a g h
heard_on n low from p q (events.Taken number value) a g h = taken_on low from p q number value a g h
heard_on n low from p q event a g h = tt

pub all_on : (n : ℕ) (low from : Counts) (p q : Past) (told : List Event) → AtMost low from → Grows p q → AllHeard n from p told → AllHeard n low q told
all_on n low from p q [] a g h = tt
all_on n low from p q (event ∷ told) a g h = (heard_on n low from p q event a g h.0, all_on n low from p q told a g h.1)

-- one event more
all_more : (n : ℕ) (from : Counts) (p : Past) (told : List Event) (event : Event) → AllHeard n from p told → Heard n from p event → AllHeard n from p (told ++ event ∷ [])
all_more n from p [] event h e = (e, tt)
all_more n from p (first ∷ told) event h e = (h.0, all_more n from p told event h.1 e)

pub told_more : (n : ℕ) (from : Counts) (p : Past) (told : List Event) (event : Event) → is_within event ≡ true → AllHeard n from p told → Heard n from p event → AllHeard n from p (with_told event told)
told_more n from p told (events.Begin call) b h e = tt
told_more n from p told (events.Got bucket version key value) b h e = all_more n from p told (events.Got bucket version key value) h e
told_more n from p told (events.Put bucket version key value) b h e = all_more n from p told (events.Put bucket version key value) h e
told_more n from p told (events.Removed bucket version key) b h e = all_more n from p told (events.Removed bucket version key) h e
told_more n from p told (events.Queued number value) b h e = all_more n from p told (events.Queued number value) h e
told_more n from p told (events.Taken number value) b h e = all_more n from p told (events.Taken number value) h e
told_more n from p told (events.Copied index to slot) b h e = all_more n from p told (events.Copied index to slot) h e
told_more n from p told (events.Left count) b h e = all_more n from p told (events.Left count) h e
told_more n from p told (events.Adopted place count) b h e = all_more n from p told (events.Adopted place count) h e
told_more n from p told event b h e = h

-- by the laws at an entry
pub value_of : (x y : Option ℕ) → same_value x y ≡ true → x ≡ y
value_of None None h = refl
value_of (Some x) (Some y) h = ap (λ (n : ℕ). Some n) (number_is x y h)
value_of None (Some y) h = absurd (cc)
value_of (Some x) None h = absurd (cc)

pub met_now : (k b version : ℕ) (p : Past) → was_current k b version p ≡ true → IsMet (begun_counts k p) p b version
met_now k b version p h = record {
  since = le_of_test (begun_at k b p) version (first_of (nat_le (begun_at k b p) version) (nat_le version (count_of b p)) h);
  until = le_of_test version (count_of b p) (rest_of (nat_le (begun_at k b p) version) (nat_le version (count_of b p)) h);
}

got_now : (n k : ℕ) (p : Past) (b version key : ℕ) (value : Option ℕ) → map_ok n p k (events.Got b version key value) ≡ true → GotHeard n (begun_counts k p) p b key version value
got_now n k p b version key value h =
    let r = rest_of (b == bucket_of n key) (same_value value (value_at b version key p) && was_current k b version p) h in
    record {
      place = number_is b (bucket_of n key) (first_of (b == bucket_of n key) (same_value value (value_at b version key p) && was_current k b version p) h);
      got = record {
        met = met_now k b version p (rest_of (same_value value (value_at b version key p)) (was_current k b version p) r);
        value_is = value_of value (value_at b version key p) (first_of (same_value value (value_at b version key p)) (was_current k b version p) r);
      };
    }

-- a change comes last
change_now : (n k : ℕ) (p q : Past) (b version key : ℕ) (change : Change) → (version == count_of b p + 1 && b == bucket_of n key) ≡ true → begun_at k b p ≤ count_of b p → changes_of b q ≡ changes_of b p ++ change ∷ [] → ChangeHeard n (begun_counts k p) q b key version change
change_now n k p q b version key change h low e =
    let v : version ≡ count_of b p + 1 = number_is version (count_of b p + 1) (first_of (version == count_of b p + 1) (b == bucket_of n key) h) in
    let at : version - 1 ≡ length (changes_of b p) = omega (arith, v) in
    let more : length (changes_of b q) ≡ length (changes_of b p) + 1 = ap (λ (all : List Change). length all) e ∙ length-append (changes_of b p) (change ∷ []) in
    record {
      place = number_is b (bucket_of n key) (rest_of (version == count_of b p + 1) (b == bucket_of n key) h);
      met = record { since = omega (arith, low, v); until = omega (arith, more, v) };
      later = omega (arith, low, v);
      here = ap (λ (all : List Change). get_or all (version - 1) change) e ∙ ap (λ (i : ℕ). get_or (changes_of b p ++ change ∷ []) i change) at ∙ get_or-append_seam (changes_of b p) change [] change;
    }

put_last : (k : ℕ) (p : Past) (b version key value : ℕ) → changes_of b (Then p k (events.Put b version key value)) ≡ changes_of b p ++ changes.Put key value ∷ []
put_last k p b version key value = rw (same_number b) refl

removed_last : (k : ℕ) (p : Past) (b version key : ℕ) → changes_of b (Then p k (events.Removed b version key)) ≡ changes_of b p ++ changes.Removed key ∷ []
removed_last k p b version key = rw (same_number b) refl

queued_now : (k : ℕ) (p : Past) (number value : ℕ) → (number == length (queued_of p) + 1) ≡ true → AtMost (begun_counts k p) (counts_of p) → QueuedHeard (begun_counts k p) (Then p k (events.Queued number value)) number value
queued_now k p number value h low =
    let v : number ≡ length (queued_of p) + 1 = number_is number (length (queued_of p) + 1) h in
    let at : number - 1 ≡ length (queued_of p) = omega (arith, v) in
    let more : length (queued_of p ++ value ∷ []) ≡ length (queued_of p) + 1 = length-append (queued_of p) (value ∷ []) in
    record {
      since = omega (arith, low.queued, v);
      until = omega (arith, more, v);
      value_is = sym (ap (λ (i : ℕ). slice_index_or (queued_of p ++ value ∷ []) i 0) at ∙ get_or-append_seam (queued_of p) value [] 0);
    }

taken_now : (k : ℕ) (p : Past) (number value : ℕ) → queue_ok p k (events.Taken number value) ≡ true → AtMost (begun_counts k p) (counts_of p) → IsTaken (begun_counts k p) (Then p k (events.Taken number value)) number value
taken_now k p number value h low =
    let r = rest_of (number == taken_of p + 1) (nat_le number (length (queued_of p)) && value == slice_index_or (queued_of p) (number - 1) 0) h in
    let v : number ≡ taken_of p + 1 = number_is number (taken_of p + 1) (first_of (number == taken_of p + 1) (nat_le number (length (queued_of p)) && value == slice_index_or (queued_of p) (number - 1) 0) h) in
    record {
      since = omega (arith, low.taken, v);
      until = omega (arith, v);
      queued = le_of_test number (length (queued_of p)) (first_of (nat_le number (length (queued_of p))) (value == slice_index_or (queued_of p) (number - 1) 0) r);
      value_is = number_is value (slice_index_or (queued_of p) (number - 1) 0) (rest_of (nat_le number (length (queued_of p))) (value == slice_index_or (queued_of p) (number - 1) 0) r);
    }

pub heard_now : (n k : ℕ) (p : Past) (event : Event) → map_ok n p k event ≡ true → queue_ok p k event ≡ true → AtMost (begun_counts k p) (counts_of p) → Heard n (begun_counts k p) (Then p k event) event
heard_now n k p (events.Got b version key value) m q low =
    let g = got_now n k p b version key value m in
    record { place = g.place; got = got_on (begun_counts k p) (begun_counts k p) p (Then p k (events.Got b version key value)) b key version value (record { versions = λ x. omega arith; queued = omega arith; taken = omega arith }) (grows_entry p k (events.Got b version key value)) g.got }
heard_now n k p (events.Put b version key value) m q low = change_now n k p (Then p k (events.Put b version key value)) b version key (changes.Put key value) m (low.versions b) (put_last k p b version key value)
heard_now n k p (events.Removed b version key) m q low = change_now n k p (Then p k (events.Removed b version key)) b version key (changes.Removed key) m (low.versions b) (removed_last k p b version key)
heard_now n k p (events.Queued number value) m q low = queued_now k p number value q low
heard_now n k p (events.Taken number value) m q low = taken_now k p number value q low
heard_now n k p event m q low = tt

-- what a call that owes one event has told
pub heard_one : (n : ℕ) (from : Counts) (p : Past) (event : Event) (told : List Event) → ((other : Event) → same_event other event ≡ true → other ≡ event) → same_told told (event ∷ []) ≡ true → AllHeard n from p told → Heard n from p event
heard_one n from p event [] f h a = absurd (cc)
heard_one n from p event (other ∷ []) f h a = subst (Heard n from p) (f other (first_of (same_event other event) true h)) a.0
heard_one n from p event (other ∷ more ∷ told) f h a = let r = rest_of (same_event other event) (same_told (more ∷ told) []) h in absurd (cc)

two_of : (a b c d : Bool) → ((a && b) && (c && d)) ≡ true → (a ≡ true) × (b ≡ true) × (c ≡ true) × (d ≡ true)
two_of a b c d h =
    let x = first_of (a && b) (c && d) h in
    let y = rest_of (a && b) (c && d) h in (first_of a b x, rest_of a b x, first_of c d y, rest_of c d y)

pub same_got : (b version key : ℕ) (value : Option ℕ) (other : Event) → same_event other (events.Got b version key value) ≡ true → other ≡ events.Got b version key value
same_got b version key value (events.Got b1 version1 key1 value1) h =
    let t = two_of (b1 == b) (version1 == version) (key1 == key) (same_value value1 value) h in
    let e1 = number_is b1 b t.0 in
    let e2 = number_is version1 version t.1 in
    let e3 = number_is key1 key t.2 in
    let e4 = value_of value1 value t.3 in cc
same_got b version key value other h = absurd (cc)

pub same_put : (b version key value : ℕ) (other : Event) → same_event other (events.Put b version key value) ≡ true → other ≡ events.Put b version key value
same_put b version key value (events.Put b1 version1 key1 value1) h =
    let t = two_of (b1 == b) (version1 == version) (key1 == key) (value1 == value) h in
    let e1 = number_is b1 b t.0 in
    let e2 = number_is version1 version t.1 in
    let e3 = number_is key1 key t.2 in
    let e4 = number_is value1 value t.3 in cc
same_put b version key value other h = absurd (cc)

pub same_removed : (b version key : ℕ) (other : Event) → same_event other (events.Removed b version key) ≡ true → other ≡ events.Removed b version key
same_removed b version key (events.Removed b1 version1 key1) h =
    let x = first_of (b1 == b && version1 == version) (key1 == key) h in
    let e1 = number_is b1 b (first_of (b1 == b) (version1 == version) x) in
    let e2 = number_is version1 version (rest_of (b1 == b) (version1 == version) x) in
    let e3 = number_is key1 key (rest_of (b1 == b && version1 == version) (key1 == key) h) in cc
same_removed b version key other h = absurd (cc)

pub same_queued_event : (number value : ℕ) (other : Event) → same_event other (events.Queued number value) ≡ true → other ≡ events.Queued number value
same_queued_event number value (events.Queued number1 value1) h =
    let e1 = number_is number1 number (first_of (number1 == number) (value1 == value) h) in
    let e2 = number_is value1 value (rest_of (number1 == number) (value1 == value) h) in cc
same_queued_event number value other h = absurd (cc)

pub same_taken : (number value : ℕ) (other : Event) → same_event other (events.Taken number value) ≡ true → other ≡ events.Taken number value
same_taken number value (events.Taken number1 value1) h =
    let e1 = number_is number1 number (first_of (number1 == number) (value1 == value) h) in
    let e2 = number_is value1 value (rest_of (number1 == number) (value1 == value) h) in cc
same_taken number value other h = absurd (cc)
