-- What is kept of a bucket is what the laws read off the record.
use Rattle.std.specs.Prelude.{Option, Some, None, Bool, true, false, if◌then◌else◌, ◌&&◌, ◌==◌, nat_le, slice_get, take}
use Rattle.std.proofs.Common.{◌≡◌, ℕ, ◌<◌, ◌≤◌, ◌+◌, List, [], ◌∷◌, ◌++◌, length, suc, zero, refl, sym, ap, subst, ◌∙◌, arith, inl, inr}
use Rattle.std.proofs.lemmas.Bool.{cases_lt, cases_eq, eq-eqb, ne_eqb, le-leb, lt-leb}
use Rattle.std.proofs.lemmas.Bool.Decides.{nat_tests}
use Rattle.std.proofs.lemmas.List.{map_push, length-map, length_push}
use Rattle.std.proofs.lemmas.Option.{slice_get_past, slice_get_cases}
use Rattle.laws.specs.defs.declared.event.Event.{Event}
use Rattle.laws.specs.defs.declared.event.Event.TheVariants as events
use Rattle.laws.specs.records.Record.{Past, begins, value_since}
use Rattle.laws.specs.records.Record.Past.{Start, Then}
use Rattle.laws.specs.StateAt.{bucket_at}
use Rattle.laws.specs.StructuresAt.{changes_of, count_of, row_at, value_at, was_current, with_change}
use Rattle.wfe_defs.specs.declared.fold.Change.{Change}
use Rattle.wfe_defs.specs.Pairs.{pairs_after, value_in}
use Rattle.wfe_check_map.specs.declared.bucket.Mark.{Mark}
use Rattle.wfe_check_map.specs.Marks.{change_in, changes_in}
use Rattle.wfe_check_rows.specs.Positions.{entries, since}
use Rattle.wfe_check_map.specs.Told.{current_in, marks_of, numbered_in, row_in, value_of_key, with_mark}
use Rattle.wfe_check_rows.proofs.Positions.{since-at_most}

pushed_if : (put : Bool) (marks : List Mark) (mark : Mark) → changes_in (if put then marks ++ mark ∷ [] else marks) ≡ (if put then changes_in marks ++ change_in mark ∷ [] else changes_in marks)
pushed_if true marks mark = map_push change_in marks mark
pushed_if false marks mark = refl

changes_with : (b : ℕ) (event : Event) (row : Option ℕ) (stamp : ℕ) (marks : List Mark) → changes_in (with_mark b event row stamp marks) ≡ with_change b (changes_in marks) event
changes_with b (events.Put bucket version key value) row stamp marks = pushed_if (b == bucket) marks (record { key = key; value = Some value; row = row; stamp = stamp })
changes_with b (events.Removed bucket version key) row stamp marks = pushed_if (b == bucket) marks (record { key = key; value = None; row = row; stamp = stamp })
changes_with b event row stamp marks = refl

pub changes_marked : (b : ℕ) (p : Past) → changes_in (marks_of b p) ≡ changes_of b p
changes_marked b Start = refl
changes_marked b (Then p i event) = changes_with b event (bucket_at b p) (entries p) (marks_of b p) ∙ ap (λ (cs : List Change). with_change b cs event) (changes_marked b p)

pub counted : (b : ℕ) (p : Past) → length (marks_of b p) ≡ count_of b p
counted b p = sym (length-map (marks_of b p) change_in) ∙ ap length (changes_marked b p)

pub value_marked : (b version key : ℕ) (p : Past) → value_of_key (marks_of b p) version key ≡ value_at b version key p
value_marked b version key p = ap (λ (cs : List Change). value_in (pairs_after (take version cs)) key) (changes_marked b p)

-- stamps are below the number of entries
abbrev Below : ℕ → List Mark → Type 0
Below n [] = Unit {0}
Below n (mark ∷ marks) = (mark.stamp < n) × Below n marks

below_more : (n : ℕ) (marks : List Mark) → Below n marks → Below (n + 1) marks
below_more n [] h = tt
below_more n (mark ∷ marks) h = let here = h.0 in (omega arith, below_more n marks h.1)

below_push : (n : ℕ) (marks : List Mark) (mark : Mark) → mark.stamp < n → Below n marks → Below n (marks ++ mark ∷ [])
below_push n [] mark here h = (here, tt)
below_push n (other ∷ marks) mark here h = (h.0, below_push n marks mark here h.1)

below_get : (n : ℕ) (marks : List Mark) (q : ℕ) (mark : Mark) → slice_get marks q ≡ Some mark → Below n marks → mark.stamp < n
below_get n [] q mark e h = absurd (cc)
below_get n (other ∷ marks) zero mark e h = let P : Mark → Type 0 = λ (m : Mark). m.stamp < n in let same : other ≡ mark = cc in subst P same h.0
below_get n (other ∷ marks) (suc q) mark e h = below_get n marks q mark e h.1

below_if : (put : Bool) (n : ℕ) (marks : List Mark) (mark : Mark) → mark.stamp ≡ n → Below n marks → Below (n + 1) (if put then marks ++ mark ∷ [] else marks)
below_if true n marks mark at h = below_push (n + 1) marks mark (omega arith) (below_more n marks h)
below_if false n marks mark at h = below_more n marks h

below_with : (b : ℕ) (event : Event) (row : Option ℕ) (stamp : ℕ) (marks : List Mark) → Below stamp marks → Below (stamp + 1) (with_mark b event row stamp marks)
below_with b (events.Put bucket version key value) row stamp marks h = below_if (b == bucket) stamp marks _ refl h
below_with b (events.Removed bucket version key) row stamp marks h = below_if (b == bucket) stamp marks _ refl h
below_with b event row stamp marks h = below_more stamp marks h

stamps_below : (b : ℕ) (p : Past) → Below (entries p) (marks_of b p)
stamps_below b Start = tt
stamps_below b (Then p i event) = below_with b event (bucket_at b p) (entries p) (marks_of b p) (stamps_below b p)

-- Versions that were current since a stamp. `IsCurrent`: the versions from the one that was the last at the stamp on
abbrev IsCurrent : List Mark → (since first version : ℕ) → Type 0
IsCurrent marks since first version = current_in marks version since ≡ (nat_le first version && nat_le version (length marks))

get_pushed : (marks : List Mark) (mark : Mark) (version : ℕ) → version < length marks → slice_get (marks ++ mark ∷ []) version ≡ slice_get marks version
get_pushed [] mark version h = absurd (omega arith)
get_pushed (other ∷ marks) mark zero h = refl
get_pushed (other ∷ marks) mark (suc version) h = get_pushed marks mark version (omega arith)

get_last : (marks : List Mark) (mark : Mark) → slice_get (marks ++ mark ∷ []) (length marks) ≡ Some mark
get_last [] mark = refl
get_last (other ∷ marks) mark = get_last marks mark

is_last_or : (first version last : ℕ) → first ≤ version → last ≤ version → (version == last) ≡ (nat_le first version && nat_le version last)
is_last_or first version last h k = grind (arith, nat_tests)

current_pushed : (marks : List Mark) (mark : Mark) (since first version : ℕ) → since ≤ mark.stamp → first ≤ length marks → IsCurrent marks since first version
    → IsCurrent (marks ++ mark ∷ []) since first version
current_pushed marks mark since first version h k e =
    let long = length_push marks mark in
    elim (cases_lt version (length marks)) [
      | inl below ↦
          let a : version ≡ length marks → ⊥ = omega arith in
          let b : version ≡ length (marks ++ mark ∷ []) → ⊥ = omega arith in
          let c : version ≤ length (marks ++ mark ∷ []) = omega arith in
          let d : version ≤ length marks = omega arith in
          let e' = rw (ne_eqb version (length marks) a, le-leb version (length marks) d) at e in
          rw (get_pushed marks mark version below, ne_eqb version (length (marks ++ mark ∷ [])) b, le-leb version (length (marks ++ mark ∷ [])) c) e'
      | inr past ↦ elim (cases_eq version (length marks)) [
        | inl at ↦
            let c : length marks ≤ length (marks ++ mark ∷ []) = omega arith in
            rw (at, get_last marks mark, le-leb since mark.stamp h, le-leb first (length marks) k, le-leb (length marks) (length (marks ++ mark ∷ [])) c) refl
        | inr beyond ↦
            let c : length (marks ++ mark ∷ []) ≤ version = omega arith in
            let d : first ≤ version = omega arith in
            rw (slice_get_past (marks ++ mark ∷ []) version c) (is_last_or first version (length (marks ++ mark ∷ [])) d c)
      ]
    ]

current_begun : (marks : List Mark) (n version : ℕ) → Below n marks → IsCurrent marks n (length marks) version
current_begun marks n version h =
    elim (slice_get_cases marks version).1 [
      | inl found ↦
          let below = found.1 in
          rw (found.2, lt-leb n found.0.stamp (below_get n marks version found.0 found.2 h), lt-leb (length marks) version below) refl
      | inr past ↦ let c = past.0 in rw past.1 (is_last_or (length marks) version (length marks) c c)
    ]

current_if : (put : Bool) (marks : List Mark) (mark : Mark) (since first version : ℕ) → since ≤ mark.stamp → first ≤ length marks → IsCurrent marks since first version
    → IsCurrent (if put then marks ++ mark ∷ [] else marks) since first version
current_if true marks mark since first version h k e = current_pushed marks mark since first version h k e
current_if false marks mark since first version h k e = e

is_start : (version : ℕ) → (version == 0) ≡ (nat_le 0 version && nat_le version 0)
is_start version = grind (arith, nat_tests)

current_if_begun : (own : Bool) (i b version : ℕ) (p : Past) → IsCurrent (marks_of b p) (since (begins i) p) (value_since (begins i) (count_of b) p) version
    → IsCurrent (marks_of b p) (if own then entries p + 1 else since (begins i) p) (if own then count_of b p else value_since (begins i) (count_of b) p) version
current_if_begun true i b version p e = rw (← counted b p) (current_begun (marks_of b p) (entries p + 1) version (below_more (entries p) (marks_of b p) (stamps_below b p)))
current_if_begun false i b version p e = e

length_if : (put : Bool) (changes : List Change) (change : Change) → length changes ≤ length (if put then changes ++ change ∷ [] else changes)
length_if true changes change = let long = length_push changes change in omega arith
length_if false changes change = omega arith

chosen_below : (b : Bool) (x y : ℕ) → y ≤ x → (if b then x else y) ≤ x
chosen_below true x y h = omega arith
chosen_below false x y h = h

length_with : (b : ℕ) (event : Event) (changes : List Change) → length changes ≤ length (with_change b changes event)
length_with b (events.Put bucket version key value) changes = length_if (b == bucket) changes _
length_with b (events.Removed bucket version key) changes = length_if (b == bucket) changes _
length_with b event changes = omega arith

value_le : (i b : ℕ) (p : Past) → value_since (begins i) (count_of b) p ≤ count_of b p
value_le i b Start = omega arith
value_le i b (Then p k event) = chosen_below (begins i p k event) (count_of b (Then p k event)) (value_since (begins i) (count_of b) p) (let rest = value_le i b p in let more = length_with b event (changes_of b p) in omega arith)

first_le : (i b : ℕ) (p : Past) → value_since (begins i) (count_of b) p ≤ length (marks_of b p)
first_le i b p = rw (counted b p) (value_le i b p)

current_from : (i b version : ℕ) (p : Past) → IsCurrent (marks_of b p) (since (begins i) p) (value_since (begins i) (count_of b) p) version
current_from i b version Start = is_start version
current_from i b version (Then p k (events.Begin call)) = current_if_begun (i == k) i b version p (current_from i b version p)
current_from i b version (Then p k (events.Put bucket v key value)) = current_if (b == bucket) (marks_of b p) _ (since (begins i) p) _ version (since-at_most (begins i) p) (first_le i b p) (current_from i b version p)
current_from i b version (Then p k (events.Removed bucket v key)) = current_if (b == bucket) (marks_of b p) _ (since (begins i) p) _ version (since-at_most (begins i) p) (first_le i b p) (current_from i b version p)
current_from i b version (Then p k event) = current_from i b version p

-- the version that was the last when the seat's call began, and the versions since
pub current_marked : (i b version : ℕ) (p : Past) → current_in (marks_of b p) version (since (begins i) p) ≡ was_current i b version p
current_marked i b version p = current_from i b version p ∙ ap (λ (n : ℕ). nat_le (value_since (begins i) (count_of b) p) version && nat_le version n) (counted b p)

-- the rows of versions
none_is : (n : ℕ) (row before : Option ℕ) → (if n + 1 == zero then row else before) ≡ before
none_is n row before = let a : n + 1 ≡ zero → ⊥ = omega arith in rw (ne_eqb (n + 1) zero a) refl

row_with : (b v : ℕ) (put : Bool) (marks : List Mark) (mark : Mark) (before : Option ℕ) → row_in (numbered_in marks v) ≡ before
    → row_in (numbered_in (if put then marks ++ mark ∷ [] else marks) v) ≡ (if put then (if length marks + 1 == v then mark.row else before) else before)
row_with b v false marks mark before e = e
row_with b zero true marks mark before e = e ∙ sym (none_is (length marks) mark.row before)
row_with b (suc v) true marks mark before e =
    elim (cases_lt v (length marks)) [
      | inl below ↦
          let a : length marks + 1 ≡ suc v → ⊥ = omega arith in
          rw (get_pushed marks mark v below, ne_eqb (length marks + 1) (suc v) a) e
      | inr past ↦ elim (cases_eq v (length marks)) [
        | inl at ↦
            let a : length marks + 1 ≡ suc (length marks) = omega arith in
            rw (at, get_last marks mark, eq-eqb (length marks + 1) (suc (length marks)) a) refl
        | inr beyond ↦
            let long = length_push marks mark in
            let a : length marks + 1 ≡ suc v → ⊥ = omega arith in
            let c : length (marks ++ mark ∷ []) ≤ v = omega arith in
            rw (slice_get_past (marks ++ mark ∷ []) v c, ne_eqb (length marks + 1) (suc v) a) (rw (slice_get_past marks v past) at e)
      ]
    ]

counted_in : (b v : ℕ) (put : Bool) (p : Past) (before : Option ℕ) → (if put then (if length (marks_of b p) + 1 == v then bucket_at b p else before) else before)
    ≡ (if put then (if count_of b p + 1 == v then bucket_at b p else before) else before)
counted_in b v put p before = ap (λ (n : ℕ). if put then (if n + 1 == v then bucket_at b p else before) else before) (counted b p)

pub row_marked : (b v : ℕ) (p : Past) → row_in (numbered_in (marks_of b p) v) ≡ row_at b v p
row_marked b zero Start = refl
row_marked b (suc v) Start = refl
row_marked b v (Then p i (events.Put bucket version key value)) = row_with b v (b == bucket) (marks_of b p) _ _ (row_marked b v p) ∙ counted_in b v (b == bucket) p (row_at b v p)
row_marked b v (Then p i (events.Removed bucket version key)) = row_with b v (b == bucket) (marks_of b p) _ _ (row_marked b v p) ∙ counted_in b v (b == bucket) p (row_at b v p)
row_marked b v (Then p i event) = row_marked b v p
