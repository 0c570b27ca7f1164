-- How often the map was changed and values were taken: at most as often as there are versions and numbers.
use Rattle.std.proofs.Common.{ℕ, zero, suc, ◌≡◌, ◌≤◌, ◌<◌, ◌+◌, ◌*◌, ◌%◌, Bool, true, false, List, [], ◌∷◌, ◌++◌, length, refl, sym, ap, arith, length-append}
use Rattle.std.proofs.lemmas.Bool.Decides.{nat_tests}
use Rattle.std.specs.Prelude.{◌==◌, nat_lt, if◌then◌else◌}
use Rattle.law_reuse.specs.laws.defs.declared.event.Event.{Event}
use Rattle.law_reuse.specs.laws.defs.declared.event.Event.TheVariants as events
use Rattle.law_reuse.specs.laws.defs.declared.fold.Change.{Change}
use Rattle.law_reuse.specs.laws.defs.declared.fold.Change.TheVariants as changes
use Rattle.law_reuse.proofs.laws.records.defs.Facts.{rest_of}
use Rattle.law_reuse.specs.laws.MapLaw.{map_ok}
use Rattle.law_reuse.specs.laws.records.Record.{Past, Test, Each}
use Rattle.law_reuse.specs.laws.records.Record.Past.{Start, Then}
use Rattle.law_reuse.specs.laws.StateAt.{one, count, told, takes_out}
use Rattle.law_reuse.specs.laws.StructuresAt.{changes_of, count_of, with_change, taken_of}
use Rattle.law_scans.proofs.FewRetired.Counting.{count_sum, count_where, order_next, none_low}

-- changes of a bucket, and of buckets below a number
abbrev changes_in : (ℕ → Bool) → Test
changes_in at p i (events.Put bucket version key value) = at bucket
changes_in at p i (events.Removed bucket version key) = at bucket
changes_in at p i event = false

abbrev of_bucket : ℕ → Test
of_bucket b = changes_in (λ bucket. b == bucket)

abbrev of_below : ℕ → Test
of_below n = changes_in (λ bucket. nat_lt bucket n)

abbrev of_all : Test
of_all = changes_in (λ bucket. true)

abbrev is_taken : Test
is_taken p i (events.Taken number value) = true
is_taken p i event = false

below_part : (n : ℕ) (p : Past) (i : ℕ) (event : Event) → one (of_below (suc n) p i event) ≡ one (of_below n p i event) + one (of_bucket n p i event)
below_part n p i (events.Put bucket version key value) = order_next n bucket
below_part n p i (events.Removed bucket version key) = order_next n bucket
below_part n p i event = refl

none_part : (p : Past) (i : ℕ) (event : Event) → of_below zero p i event ≡ false
none_part p i (events.Put bucket version key value) = none_low bucket
none_part p i (events.Removed bucket version key) = none_low bucket
none_part p i event = refl

below_none : (p : Past) → count (of_below zero) p ≡ 0
below_none Start = refl
below_none (Then p i event) = let e : one (of_below zero p i event) ≡ 0 = ap one (none_part p i event) in omega (arith, below_none p, e)

-- the changes of one bucket are counted by its version
longer : (before : List Change) (change : Change) (same : Bool) → length (if same then before ++ change ∷ [] else before) ≡ length before + one same
longer before change true = length-append before (change ∷ [])
longer before change false = omega arith

one_change : (b : ℕ) (before : List Change) (p : Past) (i : ℕ) (event : Event) → length (with_change b before event) ≡ length before + one (of_bucket b p i event)
one_change b before p i (events.Put bucket version key value) = longer before (changes.Put key value) (b == bucket)
one_change b before p i (events.Removed bucket version key) = longer before (changes.Removed key) (b == bucket)
one_change b before p i event = omega arith

bucket_count : (b : ℕ) (p : Past) → count (of_bucket b) p ≡ count_of b p
bucket_count b Start = refl
bucket_count b (Then p i event) = omega (arith, bucket_count b p, one_change b (changes_of b p) p i event)

-- all changes of buckets below a number, if each bucket has so many at most
below_most : (most n : ℕ) (p : Past) → ((b : ℕ) → count_of b p ≤ most) → count (of_below n) p ≤ n * most
below_most most zero p h = omega (arith, below_none p)
below_most most (suc n) p h = omega (arith, below_most most n p h, count_sum (of_below (suc n)) (of_below n) (of_bucket n) (below_part n) p, bucket_count n p, h n)

-- each change is of a bucket of the table
in_table : (n key bucket : ℕ) → 1 ≤ n → (bucket == key % n) ≡ true → nat_lt bucket n ≡ true
in_table n key bucket h e =
    let q : bucket ≡ key % n = grind (arith, nat_tests) in
    let low : key % n < n = omega (arith, h) in
    grind (arith, nat_tests)

table_part : (n : ℕ) → 1 ≤ n → (p : Past) (i : ℕ) (event : Event) → map_ok n p i event ≡ true → of_all p i event ≡ of_below n p i event
table_part n h p i (events.Put bucket version key value) g = sym (in_table n key bucket h (rest_of (version == count_of bucket p + 1) (bucket == key % n) g))
table_part n h p i (events.Removed bucket version key) g = sym (in_table n key bucket h (rest_of (version == count_of bucket p + 1) (bucket == key % n) g))
table_part n h p i event g = refl

-- values taken
taken_count : (p : Past) → count is_taken p ≡ taken_of p
taken_count Start = refl
taken_count (Then p i (events.Taken number value)) = omega (arith, taken_count p)
taken_count (Then p i event) = omega (arith, taken_count p)

out_part : (p : Past) (i : ℕ) (event : Event) → one (takes_out event) ≡ one (of_all p i event) + one (is_taken p i event)
out_part p i (events.Put bucket version key value) = refl
out_part p i (events.Removed bucket version key) = refl
out_part p i (events.Taken number value) = refl
out_part p i event = refl

pub out_most : (n most : ℕ) (p : Past) → 1 ≤ n → Each (map_ok n) p → ((b : ℕ) → count_of b p ≤ most) → taken_of p ≤ most → told takes_out p ≤ (n + 1) * most
out_most n most p h g v t =
    let e : told takes_out p ≡ count of_all p + count is_taken p = count_sum (λ q i event. takes_out event) of_all is_taken out_part p in
    let a : count of_all p ≡ count (of_below n) p = count_where of_all (of_below n) (map_ok n) (table_part n h) p g in
    omega (arith, e, a, below_most most n p v, taken_count p, t)
