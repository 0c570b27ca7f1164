-- The rows of the buckets, of the queue and of the lists are, each once, those of which a World says so.
use Rattle.std.proofs.Common.{ℕ, zero, suc, ◌≡◌, ◌≤◌, ◌+◌, Bool, true, false, List, [], ◌∷◌, length, Option, Some, None, refl, sym, ap, ◌∙◌, arith, length-append}
use Rattle.std.proofs.lemmas.Bool.Decides.{nat_tests}
use Rattle.std.proofs.lemmas.List.{length-map}
use Rattle.std.specs.Prelude.{◌==◌, ◌||◌, ◌&&◌, not, nat_lt, if◌then◌else◌}
use Rattle.law_all.proofs.inv.model.Facts.{both, first_of, not_of_false, number_is, or_false, or_more, rest_of, same_number, same_test}
use Rattle.law_all.specs.inv.history.Record.{Each, Past}
use Rattle.law_all.specs.inv.history.Record.Past.{Start, Then}
use Rattle.law_all.specs.inv.model.CallReady.{slots_of}
use Rattle.law_all.specs.inv.model.defs.declared.event.Event.{Event}
use Rattle.law_all.specs.inv.model.defs.declared.event.Event.TheVariants as events
use Rattle.law_all.specs.inv.model.defs.declared.fold.Change.{Change}
use Rattle.law_all.specs.inv.model.defs.declared.lifetime.Lifetime.{Lifetime}
use Rattle.law_all.specs.inv.model.words.declared.config.Config.{Config}
use Rattle.law_all.specs.inv.rows.Hands.{each_once, in_list, no_entry}
use Rattle.law_all.specs.inv.rows.Rows.{Status}
use Rattle.law_all.specs.inv.rows.Rows.Status.{Born, Claimed, Cut, Free, InQueue, Linked, Listed, Sealed}
use Rattle.law_all.specs.laws.HistoryTable.{is_in_range, ranges_ok}
use Rattle.law_all.specs.laws.Lists.{handed_by, list_of}
use Rattle.law_all.specs.laws.StateAt.{bucket_at, is_one_of, one}
use Rattle.law_all.specs.laws.StructuresAt.{changes_of, count_of, with_change}
use Rattle.law_scans.proofs.Ordering.Ordered.{word_of}
use Rattle.law_bounds.specs.Rows.{are_apart, bucket_rows, changed_below, listed_below, listed_rows, row_in}
use Rattle.law_bounds.proofs.Rows.Apart.{Part, part_as, part_both, same_bool}

-- the row of a bucket, or of one below a number
abbrev pub linked_at : (bucket : ℕ) → Status → Bool
linked_at n Free = false
linked_at n (Claimed by) = false
linked_at n (Born by) = false
linked_at n (Linked bucket) = bucket == n
linked_at n InQueue = false
linked_at n (Cut by) = false
linked_at n (Sealed by retire) = false
linked_at n (Listed by retire) = false

abbrev pub linked_below : (below : ℕ) → Status → Bool
linked_below n Free = false
linked_below n (Claimed by) = false
linked_below n (Born by) = false
linked_below n (Linked bucket) = nat_lt bucket n
linked_below n InQueue = false
linked_below n (Cut by) = false
linked_below n (Sealed by retire) = false
linked_below n (Listed by retire) = false

-- the row of a seat's list, or of that of one below a number
abbrev pub listed_at : (seat : ℕ) → Status → Bool
listed_at n Free = false
listed_at n (Claimed by) = false
listed_at n (Born by) = false
listed_at n (Linked bucket) = false
listed_at n InQueue = false
listed_at n (Cut by) = false
listed_at n (Sealed by retire) = false
listed_at n (Listed by retire) = by == n

abbrev pub listed_under : (below : ℕ) → Status → Bool
listed_under n Free = false
listed_under n (Claimed by) = false
listed_under n (Born by) = false
listed_under n (Linked bucket) = false
listed_under n InQueue = false
listed_under n (Cut by) = false
listed_under n (Sealed by retire) = false
listed_under n (Listed by retire) = nat_lt by n

none_below : (n : ℕ) → false ≡ nat_lt n 0
none_below n = grind (arith, nat_tests)

below_more : (b n : ℕ) → (nat_lt b n || b == n) ≡ nat_lt b (suc n)
below_more b n = grind (arith, nat_tests)

below_not : (b n : ℕ) → nat_lt b n ≡ true → (b == n) ≡ true → ⊥
below_not b n h e = grind (arith, nat_tests)

linked_none : (x : Status) → false ≡ linked_below 0 x
linked_none Free = refl
linked_none (Claimed by) = refl
linked_none (Born by) = refl
linked_none (Linked bucket) = none_below bucket
linked_none InQueue = refl
linked_none (Cut by) = refl
linked_none (Sealed by retire) = refl
linked_none (Listed by retire) = refl

linked_more : (n : ℕ) (x : Status) → (linked_below n x || linked_at n x) ≡ linked_below (suc n) x
linked_more n Free = refl
linked_more n (Claimed by) = refl
linked_more n (Born by) = refl
linked_more n (Linked bucket) = below_more bucket n
linked_more n InQueue = refl
linked_more n (Cut by) = refl
linked_more n (Sealed by retire) = refl
linked_more n (Listed by retire) = refl

linked_not : (n : ℕ) (x : Status) → linked_below n x ≡ true → linked_at n x ≡ true → ⊥
linked_not n (Linked bucket) h e = below_not bucket n h e
linked_not n x h e = absurd (cc)

linked_is : (n : ℕ) (x : Status) → linked_at n x ≡ true → x ≡ Linked n
linked_is n (Linked bucket) h = ap Linked (number_is bucket n h)
linked_is n x h = absurd (cc)

listed_none : (x : Status) → false ≡ listed_under 0 x
listed_none Free = refl
listed_none (Claimed by) = refl
listed_none (Born by) = refl
listed_none (Linked bucket) = refl
listed_none InQueue = refl
listed_none (Cut by) = refl
listed_none (Sealed by retire) = refl
listed_none (Listed by retire) = none_below by

listed_more : (n : ℕ) (x : Status) → (listed_under n x || listed_at n x) ≡ listed_under (suc n) x
listed_more n Free = refl
listed_more n (Claimed by) = refl
listed_more n (Born by) = refl
listed_more n (Linked bucket) = refl
listed_more n InQueue = refl
listed_more n (Cut by) = refl
listed_more n (Sealed by retire) = refl
listed_more n (Listed by retire) = below_more by n

listed_not : (n : ℕ) (x : Status) → listed_under n x ≡ true → listed_at n x ≡ true → ⊥
listed_not n (Listed by retire) h e = below_not by n h e
listed_not n x h e = absurd (cc)

listed_is : (n : ℕ) (x : Status) → listed_at n x ≡ true → (retire : ℕ) × (x ≡ Listed n retire)
listed_is n (Listed by retire) h = (retire, ap (λ (k : ℕ). Listed k retire) (number_is by n h))
listed_is n x h = absurd (cc)

-- The buckets: a root has this row just where that is the row's status.
module _ (status : ℕ → Status) (root : ℕ → ℕ) (p : Past)
    (words : (b : ℕ) → word_of (bucket_at b p) ≡ root b)
    (roots : (b s : ℕ) → root b ≡ s + 1 → status s ≡ Linked b)
    (linked : (b s : ℕ) → status s ≡ Linked b → root b ≡ s + 1) where
  one_part : (b : ℕ) (x : Option ℕ) → bucket_at b p ≡ x → Part (λ s. linked_at b (status s)) (row_in x)
  one_part b None e = record { is = λ s. same_bool false (linked_at b (status s)) (λ f. absurd (cc)) (λ t. none s t); apart = refl }
    where
      none : (s : ℕ) → linked_at b (status s) ≡ true → false ≡ true
      none s t =
          let one : root b ≡ s + 1 = linked b s (linked_is b (status s) t) in
          let null : root b ≡ 0 = sym (words b) ∙ ap word_of e in
          absurd (omega (arith, one, null))
  one_part b (Some t) e = record { is = λ s. same_bool ((s == t) || false) (linked_at b (status s)) (λ f. this s (sym (or_false (s == t)) ∙ f)) (λ f. back s f); apart = refl }
    where
      to : root b ≡ t + 1
      to = sym (words b) ∙ ap word_of e

      this : (s : ℕ) → (s == t) ≡ true → linked_at b (status s) ≡ true
      this s f = ap (λ (x : ℕ). linked_at b (status x)) (number_is s t f) ∙ ap (linked_at b) (roots b t to) ∙ same_number b

      back : (s : ℕ) → linked_at b (status s) ≡ true → ((s == t) || false) ≡ true
      back s f =
          let one : root b ≡ s + 1 = linked b s (linked_is b (status s) f) in
          or_false (s == t) ∙ same_test s t (omega (arith, one, to))

  pub bucket_part : (n : ℕ) → Part (λ s. linked_below n (status s)) (bucket_rows n p)
  bucket_part zero = record { is = λ s. linked_none (status s); apart = refl }
  bucket_part (suc n) =
      part_as (λ s. linked_below n (status s) || linked_at n (status s)) (λ s. linked_below (suc n) (status s)) (bucket_rows (suc n) p) (λ s. linked_more n (status s))
      (part_both (λ s. linked_below n (status s)) (λ s. linked_at n (status s)) (bucket_rows n p) (row_in (bucket_at n p)) (bucket_part n) (one_part n (bucket_at n p) refl) (λ s h e. linked_not n (status s) h e))

-- as many as were changed
row_counts : (x : Option ℕ) (root count : ℕ) → word_of x ≡ root → (root == 0) ≡ (count == 0) → length (row_in x) ≡ one (nat_lt 0 count)
row_counts None root count w e =
    let null : (root == 0) ≡ true = same_test root 0 (sym w) in
    let none : (count == 0) ≡ true = sym e ∙ null in
    let here : nat_lt 0 count ≡ false = grind (arith, nat_tests, none) in
    sym (ap one here)
row_counts (Some slot) root count w e =
    let some : (root == 0) ≡ false = not_zero slot root w in
    let more : (count == 0) ≡ false = sym e ∙ some in
    let here : nat_lt 0 count ≡ true = grind (arith, nat_tests, more) in
    sym (ap one here)
  where
    not_zero : (slot root : ℕ) → slot + 1 ≡ root → (root == 0) ≡ false
    not_zero slot root w = grind (arith, nat_tests)

pub buckets_count : (root : ℕ → ℕ) (p : Past) → ((b : ℕ) → word_of (bucket_at b p) ≡ root b) → ((b : ℕ) → (root b == 0) ≡ (count_of b p == 0)) → (n : ℕ) → length (bucket_rows n p) ≡ changed_below n p
buckets_count root p words empty zero = refl
buckets_count root p words empty (suc n) =
    let more = buckets_count root p words empty n in
    let here : length (row_in (bucket_at n p)) ≡ one (nat_lt 0 (count_of n p)) = row_counts (bucket_at n p) (root n) (count_of n p) (words n) (empty n) in
    length-append (bucket_rows n p) (row_in (bucket_at n p)) ∙ omega (arith, more, here)

-- no bucket that the table has not is changed
one_outside : (c : Config) (b : ℕ) (event : Event) (before : List Change) → c.buckets ≤ b → is_in_range c event ≡ true → before ≡ [] → with_change b before event ≡ []
one_outside c b (events.Put bucket version key value) before low h e = let other : (b == bucket) ≡ false = grind (arith, nat_tests, low, h) in rw other e
one_outside c b (events.Removed bucket version key) before low h e = let other : (b == bucket) ≡ false = grind (arith, nat_tests, low, h) in rw other e
one_outside c b event before low h e = e

pub never_changed : (c : Config) (b : ℕ) (p : Past) → c.buckets ≤ b → Each (ranges_ok c) p → changes_of b p ≡ []
never_changed c b Start low h = refl
never_changed c b (Then p i event) low h = one_outside c b event (changes_of b p) low (rest_of (nat_lt i c.seats) (is_in_range c event) h.0) (never_changed c b p low h.1)

-- The lists: a row is on a list once, with its life.
in_slots : (s b r : ℕ) (list : List Lifetime) → in_list list s b r ≡ true → is_one_of s (slots_of list) ≡ true
in_slots s b r [] h = h
in_slots s b r (life ∷ lives) h = by (s == life.slot) (in_slots s b r lives) h
  where
    by : (same : Bool) → (in_list lives s b r ≡ true → is_one_of s (slots_of lives) ≡ true) → ((same && ((b == life.birth) && (r == life.retire))) || in_list lives s b r) ≡ true → (same || is_one_of s (slots_of lives)) ≡ true
    by true f h = refl
    by false f h = f h

record OnList (s : ℕ) (list : List Lifetime) : Type 0 where
  birth : ℕ
  retire : ℕ
  on : in_list list s birth retire ≡ true

on_slots : (s : ℕ) (list : List Lifetime) → is_one_of s (slots_of list) ≡ true → OnList s list
on_slots s [] h = absurd (cc)
on_slots s (life ∷ lives) h = by (s == life.slot) refl (on_slots s lives) h
  where
    here : (same b r more : Bool) → same ≡ true → b ≡ true → r ≡ true → ((same && (b && r)) || more) ≡ true
    here same b r more e f g = rw (e, f, g) refl

    by : (same : Bool) → (s == life.slot) ≡ same → (is_one_of s (slots_of lives) ≡ true → OnList s lives) → (same || is_one_of s (slots_of lives)) ≡ true → OnList s (life ∷ lives)
    by true e f h = record { birth = life.birth; retire = life.retire; on = here (s == life.slot) (life.birth == life.birth) (life.retire == life.retire) (in_list lives s life.birth life.retire) e (same_number life.birth) (same_number life.retire) }
    by false e f h =
        let x = f h in
        record { birth = x.birth; retire = x.retire; on = or_more ((s == life.slot) && ((x.birth == life.birth) && (x.retire == life.retire))) (in_list lives s x.birth x.retire) x.on }

unlisted : (s : ℕ) (list : List Lifetime) → no_entry s list ≡ true → is_one_of s (slots_of list) ≡ false
unlisted s [] h = refl
unlisted s (life ∷ lives) h =
    let here : not (s == life.slot) ≡ true = first_of (not (s == life.slot)) (no_entry s lives) h in
    let more : is_one_of s (slots_of lives) ≡ false = unlisted s lives (rest_of (not (s == life.slot)) (no_entry s lives) h) in
    grind (arith, nat_tests, here, more)

pub once_apart : (list : List Lifetime) → each_once list ≡ true → are_apart (slots_of list) ≡ true
once_apart [] h = refl
once_apart (life ∷ lives) h =
    both (not (is_one_of life.slot (slots_of lives))) (are_apart (slots_of lives))
    (not_of_false (is_one_of life.slot (slots_of lives)) (unlisted life.slot lives (first_of (no_entry life.slot lives) (each_once lives) h)))
    (once_apart lives (rest_of (no_entry life.slot lives) (each_once lives) h))

module _ (status : ℕ → Status) (birth : ℕ → ℕ) (lists : ℕ → ℕ → ℕ → ℕ → Bool) (p : Past)
    (own : (k s b r : ℕ) → lists k s b r ≡ in_list (list_of k p) s b r)
    (once : (k : ℕ) → each_once (list_of k p) ≡ true)
    (listed : (k s b r : ℕ) → lists k s b r ≡ true → status s ≡ Listed k r)
    (entries : (k s r : ℕ) → status s ≡ Listed k r → lists k s (birth s) r ≡ true) where
  own_part : (k : ℕ) → Part (λ s. listed_at k (status s)) (slots_of (list_of k p))
  own_part k = record { is = λ s. same_bool (is_one_of s (slots_of (list_of k p))) (listed_at k (status s)) (λ h. there s (on_slots s (list_of k p) h)) (λ h. back s (listed_is k (status s) h)); apart = once_apart (list_of k p) (once k) }
    where
      there : (s : ℕ) → OnList s (list_of k p) → listed_at k (status s) ≡ true
      there s x = ap (listed_at k) (listed k s x.birth x.retire (own k s x.birth x.retire ∙ x.on)) ∙ same_number k

      back : (s : ℕ) → (retire : ℕ) × (status s ≡ Listed k retire) → is_one_of s (slots_of (list_of k p)) ≡ true
      back s x = in_slots s (birth s) x.0 (list_of k p) (sym (own k s (birth s) x.0) ∙ entries k s x.0 x.1)

  pub listed_part : (n : ℕ) → Part (λ s. listed_under n (status s)) (listed_rows n p)
  listed_part zero = record { is = λ s. listed_none (status s); apart = refl }
  listed_part (suc n) =
      part_as (λ s. listed_under n (status s) || listed_at n (status s)) (λ s. listed_under (suc n) (status s)) (listed_rows (suc n) p) (λ s. listed_more n (status s))
      (part_both (λ s. listed_under n (status s)) (λ s. listed_at n (status s)) (listed_rows n p) (slots_of (list_of n p)) (listed_part n) (own_part n) (λ s h e. listed_not n (status s) h e))

pub lists_count : (n : ℕ) (p : Past) → length (listed_rows n p) ≡ listed_below n p
lists_count zero p = refl
lists_count (suc n) p =
    let more = lists_count n p in
    let here : length (slots_of (list_of n p)) ≡ length (list_of n p) = length-map (list_of n p) (λ (life : Lifetime). life.slot) in
    length-append (listed_rows n p) (slots_of (list_of n p)) ∙ omega (arith, more, here)

-- a seat that the table has not has no list
handed_none : (k : ℕ) (event : Event) → handed_by k event [] ≡ []
handed_none k (events.Adopted place count) = by (k == place)
  where
    by : (same : Bool) → ◌≡◌ {A = List Lifetime} (if same then [] else []) []
    by true = refl
    by false = refl
handed_none k event = refl

pub none_listed : (c : Config) (k : ℕ) (p : Past) → c.seats ≤ k → Each (ranges_ok c) p → list_of k p ≡ []
none_listed c k Start low h = refl
none_listed c k (Then p i event) low h =
    let below : nat_lt i c.seats ≡ true = first_of (nat_lt i c.seats) (is_in_range c event) h.0 in
    let other : (k == i) ≡ false = grind (arith, nat_tests, below, low) in
    rw other (ap (handed_by k event) (none_listed c k p low h.1) ∙ handed_none k event)
