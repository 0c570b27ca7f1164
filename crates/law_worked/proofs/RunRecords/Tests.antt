-- The tests of single calls and of two calls decide what the law of runs says of them.
use Rattle.std.proofs.Common.{Bool, List, None, Option, Some, [], ap, ap₂, arith, false, length, refl, subst, sym, true, ℕ, ◌+◌, ◌-◌, ◌<◌, ◌∙◌, ◌∷◌, ◌≡◌, ◌≤◌}
use Rattle.std.proofs.lemmas.Bool.Decides.{Decides-and, Decides-eqb, Decides-like, nat_tests}
use Rattle.std.specs.Bool.{Decides}
use Rattle.std.specs.Prelude.{if◌then◌else◌, is_some, nat_le, nat_lt, not, slice_get, ◌&&◌, ◌==◌}
use Rattle.law_all.proofs.inv.model.Facts.{both, by_cases, false_of_not, first_of, not_of_false, number_is, rest_of}
use Rattle.law_all.specs.inv.model.defs.Pairs.{value_in}
use Rattle.law_all.specs.inv.model.defs.declared.call.Answer.{Answer}
use Rattle.law_all.specs.inv.model.defs.declared.call.Answer.TheVariants as answers
use Rattle.law_all.specs.inv.model.defs.declared.call.Call.{Call}
use Rattle.law_all.specs.inv.model.defs.declared.call.Call.TheVariants as calls
use Rattle.law_all.specs.inv.model.defs.declared.call.ClockMove.{ClockMove}
use Rattle.law_all.specs.inv.model.defs.declared.fold.Change.{Change}
use Rattle.law_all.specs.inv.model.defs.declared.fold.Change.TheVariants as changes
use Rattle.law_all.specs.inv.model.words.declared.config.Config.{Config}
use Rattle.law_all.specs.laws.StructuresAt.{bucket_of, same_value}
use Rattle.law_all.specs.RunLaw.{IsAway, IsMade, IsThere, QueuesRight, ReadsRight, could_put, has_number, is_still, is_version, pairs_by}
use Rattle.law_worked.specs.RunRecords.Readers.{adopted_ok, away_ok, back_ok, bare_ok, clock_ok, empty_ok, final_ok, full_ok, if_some_ok, is_this, kept_ok, made_ok, parted_ok, plain_ok, queues_ok, reads_ok, rises_ok, same_numbers, same_pairs, versions_ok}

-- of numbers and values

pub itself : (b : Bool) → Decides b (b ≡ true)
itself b = ((λ e. e), (λ e. e))

pub decides_other : (b : Bool) → Decides (not b) (b ≡ false)
decides_other b = ((λ t. false_of_not b t), (λ t. not_of_false b t))

pub decides_most : (a b : ℕ) → Decides (nat_le a b) (a ≤ b)
decides_most a b = ((λ t. grind (arith, nat_tests)), (λ t. grind (arith, nat_tests)))

pub decides_less : (a b : ℕ) → Decides (nat_lt a b) (a < b)
decides_less a b = ((λ t. grind (arith, nat_tests)), (λ t. grind (arith, nat_tests)))

pub decides_value : (x y : Option ℕ) → Decides (same_value x y) (x ≡ y)
decides_value None None = ((λ t. refl), (λ t. refl))
decides_value None (Some b) = ((λ t. absurd (cc)), (λ t. absurd (cc)))
decides_value (Some a) None = ((λ t. absurd (cc)), (λ t. absurd (cc)))
decides_value (Some a) (Some b) = ((λ t. ap Some (number_is a b t)), (λ t. let same : a ≡ b = cc in (Decides-eqb a b).1 same))

decides_pair_of : (x y : ℕ × ℕ) → Decides (x.0 == y.0 && x.1 == y.1) (x ≡ y)
decides_pair_of x y = (
  (λ t. ap₂ (λ (a b : ℕ). (a, b)) (number_is x.0 y.0 (first_of (x.0 == y.0) (x.1 == y.1) t)) (number_is x.1 y.1 (rest_of (x.0 == y.0) (x.1 == y.1) t))),
  (λ t. both (x.0 == y.0) (x.1 == y.1) ((Decides-eqb x.0 y.0).1 (ap (λ p. p.0) t)) ((Decides-eqb x.1 y.1).1 (ap (λ p. p.1) t))),
)

pub decides_pairs : (xs ys : List (ℕ × ℕ)) → Decides (same_pairs xs ys) (xs ≡ ys)
decides_pairs [] [] = ((λ t. refl), (λ t. refl))
decides_pairs [] (y ∷ ys) = ((λ t. absurd (cc)), (λ t. absurd (cc)))
decides_pairs (x ∷ xs) [] = ((λ t. absurd (cc)), (λ t. absurd (cc)))
decides_pairs (x ∷ xs) (y ∷ ys) = (
  (λ t.
      ap₂ (λ (z : ℕ × ℕ) zs. z ∷ zs) ((decides_pair_of x y).0 (first_of (x.0 == y.0 && x.1 == y.1) (same_pairs xs ys) t))
      ((decides_pairs xs ys).0 (rest_of (x.0 == y.0 && x.1 == y.1) (same_pairs xs ys) t))),
  (λ t.
      let head : x ≡ y = cc in
      let tail : xs ≡ ys = cc in
      both (x.0 == y.0 && x.1 == y.1) (same_pairs xs ys) ((decides_pair_of x y).1 head) ((decides_pairs xs ys).1 tail)),
)

pub decides_slots : (xs ys : List ℕ) → Decides (same_numbers xs ys) (xs ≡ ys)
decides_slots [] [] = ((λ t. refl), (λ t. refl))
decides_slots [] (y ∷ ys) = ((λ t. absurd (cc)), (λ t. absurd (cc)))
decides_slots (x ∷ xs) [] = ((λ t. absurd (cc)), (λ t. absurd (cc)))
decides_slots (x ∷ xs) (y ∷ ys) = (
  (λ t.
      ap₂ (λ (z : ℕ) zs. z ∷ zs) (number_is x y (first_of (x == y) (same_numbers xs ys) t))
      ((decides_slots xs ys).0 (rest_of (x == y) (same_numbers xs ys) t))),
  (λ t.
      let head : x ≡ y = cc in
      let tail : xs ≡ ys = cc in both (x == y) (same_numbers xs ys) ((Decides-eqb x y).1 head) ((decides_slots xs ys).1 tail)),
)

decides_this : (change : Change) (other : Option Change) → Decides (is_this change other) (other ≡ Some change)
decides_this (changes.Put key value) None = ((λ t. absurd (cc)), (λ t. absurd (cc)))
decides_this (changes.Put key value) (Some (changes.Put k v)) = (
  (λ t.
      ap₂ (λ (a b : ℕ). Some (changes.Put a b)) (sym (number_is key k (first_of (key == k) (value == v) t)))
      (sym (number_is value v (rest_of (key == k) (value == v) t)))),
  (λ t.
      let one : key ≡ k = cc in
      let two : value ≡ v = cc in
      both (key == k) (value == v) ((Decides-eqb key k).1 one) ((Decides-eqb value v).1 two)),
)
decides_this (changes.Put key value) (Some (changes.Removed k)) = ((λ t. absurd (cc)), (λ t. absurd (cc)))
decides_this (changes.Removed key) None = ((λ t. absurd (cc)), (λ t. absurd (cc)))
decides_this (changes.Removed key) (Some (changes.Put k v)) = ((λ t. absurd (cc)), (λ t. absurd (cc)))
decides_this (changes.Removed key) (Some (changes.Removed k)) = (
  (λ t. ap (λ (a : ℕ). Some (changes.Removed a)) (sym (number_is key k t))),
  (λ t. let one : key ≡ k = cc in (Decides-eqb key k).1 one),
)

-- of a call's answer and its notes

pub decides_full : (answer : Answer) (given : Option (ℕ × ℕ)) → Decides (full_ok answer given) (answer ≡ answers.Full → given ≡ None)
decides_full answers.Full None = ((λ t e. refl), (λ h. refl))
decides_full answers.Full (Some row) = ((λ t e. absurd (cc)), (λ h. let none : Some row ≡ None = h refl in absurd (cc)))
decides_full answer given = ((λ t e. absurd (cc)), (λ h. refl))

pub decides_clock : (told : Option ClockMove) (due : Bool)
    → Decides (clock_ok told due) ((move : ClockMove) → told ≡ Some move → is_still move ≡ (if due then false else true))
decides_clock None due = ((λ t move e. absurd (cc)), (λ h. refl))
decides_clock (Some move) true = (
  (λ t other e. let same : move ≡ other = cc in subst (λ x. is_still x ≡ false) same (false_of_not (is_still move) t)),
  (λ h. not_of_false (is_still move) (h move refl)),
)
decides_clock (Some move) false = (
  (λ t other e. let same : move ≡ other = cc in subst (λ x. is_still x ≡ true) same t),
  (λ h. h move refl),
)

pub decides_plain : (given : Option (ℕ × ℕ)) (early : ℕ) → Decides (plain_ok given early) (given ≡ None → early ≡ 0)
decides_plain None early = ((λ t e. number_is early 0 t), (λ h. (Decides-eqb early 0).1 (h refl)))
decides_plain (Some row) early = ((λ t e. absurd (cc)), (λ h. refl))

pub decides_back : (answer : Answer) (many : ℕ) → Decides (back_ok answer many) ((kept back : ℕ) → answer ≡ answers.Scanned kept back → back ≡ many)
decides_back (answers.Scanned kept back) many = (
  (λ t kept' back' e. let same : back ≡ back' = cc in sym same ∙ number_is back many t),
  (λ h. (Decides-eqb back many).1 (h kept back refl)),
)
decides_back answer many = ((λ t kept back e. absurd (cc)), (λ h. refl))

pub decides_kept : (answer : Answer) (many : ℕ) → Decides (kept_ok answer many) ((kept back : ℕ) → answer ≡ answers.Scanned kept back → kept ≡ many)
decides_kept (answers.Scanned kept back) many = (
  (λ t kept' back' e. let same : kept ≡ kept' = cc in sym same ∙ number_is kept many t),
  (λ h. (Decides-eqb kept many).1 (h kept back refl)),
)
decides_kept answer many = ((λ t kept back e. absurd (cc)), (λ h. refl))

pub decides_parted : (answer : Answer) (many : ℕ) → Decides (parted_ok answer many) ((count : ℕ) → answer ≡ answers.Left count → count ≡ many)
decides_parted (answers.Left count) many = (
  (λ t count' e. let same : count ≡ count' = cc in sym same ∙ number_is count many t),
  (λ h. (Decides-eqb count many).1 (h count refl)),
)
decides_parted answer many = ((λ t count e. absurd (cc)), (λ h. refl))

pub decides_adopted : (left : ℕ → List ℕ) (place : Option ℕ) (answer : Answer)
    → Decides (adopted_ok left place answer) ((from count : ℕ) → place ≡ Some from → answer ≡ answers.Adopted count → count ≡ length (left from))
decides_adopted left None answer = ((λ t from count e f. absurd (cc)), (λ h. refl))
decides_adopted left (Some place) (answers.Adopted count) = (
  (λ t from count' e f.
      let one : place ≡ from = cc in
      let same : count ≡ count' = cc in
      sym same ∙ number_is count (length (left place)) t ∙ ap (λ (x : ℕ). length (left x)) one),
  (λ h. (Decides-eqb count (length (left place))).1 (h place count refl refl)),
)
decides_adopted left (Some place) answer = ((λ t from count e f. absurd (cc)), (λ h. refl))

pub decides_bare : (bare : Bool) (given : Option (ℕ × ℕ)) (back : List ℕ) → Decides (bare_ok bare given back) (bare ≡ true → (given ≡ None) × (back ≡ []))
decides_bare true None [] = ((λ t e. (refl, refl)), (λ h. refl))
decides_bare true None (slot ∷ slots) = ((λ t e. absurd (cc)), (λ h. let none = (h refl).1 in absurd (cc)))
decides_bare true (Some row) back = ((λ t e. absurd (cc)), (λ h. let none = (h refl).0 in absurd (cc)))
decides_bare false given back = ((λ t e. absurd (cc)), (λ h. refl))

-- of what an answer says of its bucket

decides_none : (x : Option ℕ) → Decides (not (is_some x)) (x ≡ None)
decides_none None = ((λ t. refl), (λ t. refl))
decides_none (Some n) = ((λ t. absurd (cc)), (λ t. absurd (cc)))

decides_away : (cs : List Change) (key version : ℕ) → Decides (away_ok cs key version) (IsAway cs key version)
decides_away cs key version =
    Decides-like (away_ok cs key version) (λ h. record { had = h.0; away = h.1 }) (λ k. (k.had, k.away))
    (Decides-and (nat_le version (length cs)) (not (is_some (value_in (pairs_by cs version) key)))
    (decides_most version (length cs)) (decides_none (value_in (pairs_by cs version) key)))

decides_there : (cs : List Change) (key version : ℕ)
    → Decides (nat_le version (length cs) && is_some (value_in (pairs_by cs version) key)) (IsThere cs key version)
decides_there cs key version =
    Decides-like (nat_le version (length cs) && is_some (value_in (pairs_by cs version) key)) (λ h. record { had = h.0; there = h.1 }) (λ k. (k.had, k.there))
    (Decides-and (nat_le version (length cs)) (is_some (value_in (pairs_by cs version) key))
    (decides_most version (length cs)) (itself (is_some (value_in (pairs_by cs version) key))))

decides_made : (cs : List Change) (change : Change) (version : ℕ) (could : Bool) → Decides (made_ok cs change version could) (IsMade cs change version could)
decides_made cs change version could =
    Decides-like (made_ok cs change version could) (λ h. record { some = h.0; is = h.1.0; could_be = h.1.1 }) (λ k. (k.some, (k.is, k.could_be)))
    (Decides-and (nat_le 1 version) (is_this change (slice_get cs (version - 1)) && could) (decides_most 1 version)
    (Decides-and (is_this change (slice_get cs (version - 1))) could (decides_this change (slice_get cs (version - 1))) (itself could)))

pub decides_reads : (c : Config) (made : ℕ → List Change) (call : Call) (answer : Answer)
    → Decides (reads_ok c made call answer) (ReadsRight c made call answer)
decides_reads c made (calls.Get key) (answers.Got version value) =
    Decides-and (nat_le version (length (made (bucket_of c.buckets key)))) (same_value value (value_in (pairs_by (made (bucket_of c.buckets key)) version) key))
    (decides_most version (length (made (bucket_of c.buckets key)))) (decides_value value (value_in (pairs_by (made (bucket_of c.buckets key)) version) key))
decides_reads c made (calls.Put key value) (answers.Done version clock) =
    decides_made (made (bucket_of c.buckets key)) (changes.Put key value) version
    (could_put c.pairs (pairs_by (made (bucket_of c.buckets key)) (version - 1)) key)
decides_reads c made (calls.Put key value) (answers.BucketFull version) =
    Decides-and (away_ok (made (bucket_of c.buckets key)) key version) (length (pairs_by (made (bucket_of c.buckets key)) version) == c.pairs)
    (decides_away (made (bucket_of c.buckets key)) key version) (Decides-eqb (length (pairs_by (made (bucket_of c.buckets key)) version)) c.pairs)
decides_reads c made (calls.Put key value) (answers.Spent version) = Decides-eqb version (length (made (bucket_of c.buckets key)))
decides_reads c made (calls.PutIf key value wanted) (answers.Done version clock) =
    let could : Bool = could_put c.pairs (pairs_by (made (bucket_of c.buckets key)) (version - 1)) key in
    Decides-and (made_ok (made (bucket_of c.buckets key)) (changes.Put key value) version could) (version == wanted + 1)
    (decides_made (made (bucket_of c.buckets key)) (changes.Put key value) version could) (Decides-eqb version (wanted + 1))
decides_reads c made (calls.PutIf key value wanted) (answers.BucketFull version) =
    let many : ℕ = length (pairs_by (made (bucket_of c.buckets key)) version) in
    Decides-and (away_ok (made (bucket_of c.buckets key)) key version && many == c.pairs) (version == wanted)
    (Decides-and (away_ok (made (bucket_of c.buckets key)) key version) (many == c.pairs)
    (decides_away (made (bucket_of c.buckets key)) key version) (Decides-eqb many c.pairs))
    (Decides-eqb version wanted)
decides_reads c made (calls.PutIf key value wanted) (answers.Spent version) =
    Decides-and (version == length (made (bucket_of c.buckets key))) (version == wanted)
    (Decides-eqb version (length (made (bucket_of c.buckets key)))) (Decides-eqb version wanted)
decides_reads c made (calls.PutIf key value wanted) (answers.Stale version) =
    Decides-and (nat_le version (length (made (bucket_of c.buckets key)))) (not (version == wanted))
    (decides_most version (length (made (bucket_of c.buckets key)))) (decides_other (version == wanted))
decides_reads c made (calls.Remove key) (answers.Done version clock) =
    decides_made (made (bucket_of c.buckets key)) (changes.Removed key) version
    (is_some (value_in (pairs_by (made (bucket_of c.buckets key)) (version - 1)) key))
decides_reads c made (calls.Remove key) (answers.Absent version) = decides_away (made (bucket_of c.buckets key)) key version
decides_reads c made (calls.Remove key) (answers.Spent version) =
    Decides-and
    (nat_le version (length (made (bucket_of c.buckets key))) && is_some (value_in (pairs_by (made (bucket_of c.buckets key)) version) key))
    (version == length (made (bucket_of c.buckets key)))
    (decides_there (made (bucket_of c.buckets key)) key version) (Decides-eqb version (length (made (bucket_of c.buckets key))))
decides_reads c made call answer = ((λ t. tt), (λ h. refl))

-- of what it says of the queue

pub decides_queues : (c : Config) (queued : List ℕ) (call : Call) (answer : Answer)
    → Decides (queues_ok c queued call answer) (QueuesRight c queued call answer)
decides_queues c queued (calls.Enqueue value) (answers.Queued number) = decides_value (slice_get queued (number - 1)) (Some value)
decides_queues c queued (calls.Enqueue value) (answers.Spent number) = Decides-eqb (length queued) c.last_version
decides_queues c queued calls.Dequeue (answers.Taken number value clock) = decides_value (slice_get queued (number - 1)) (Some value)
decides_queues c queued call answer = ((λ t. tt), (λ h. refl))

-- of two calls of one seat

version_is : (n b version : ℕ) (told : ℕ × ℕ) → is_version n b version (Some told) ≡ true → (bucket_of n told.0 ≡ b) × (told.1 ≡ version)
version_is n b version told e = (
  number_is (bucket_of n told.0) b (first_of (bucket_of n told.0 == b) (told.1 == version) e),
  number_is told.1 version (rest_of (bucket_of n told.0 == b) (told.1 == version) e),
)

own_version : (n : ℕ) (told : ℕ × ℕ) (b : ℕ) → bucket_of n told.0 ≡ b → is_version n b told.1 (Some told) ≡ true
own_version n told b e = both (bucket_of n told.0 == b) (told.1 == told.1) ((Decides-eqb (bucket_of n told.0) b).1 e) ((Decides-eqb told.1 told.1).1 refl)

-- where both tell a version of the bucket, they are so
abbrev pub Versions : (ℕ → ℕ → Type 0) → (n : ℕ) → (one two : Option (ℕ × ℕ)) → Type 0
Versions R n one two = (b low high : ℕ) → is_version n b low one ≡ true → is_version n b high two ≡ true → R low high

pub decides_versions : (test : ℕ → ℕ → Bool) (R : ℕ → ℕ → Type 0) → ((low high : ℕ) → Decides (test low high) (R low high))
    → (n : ℕ) (one two : Option (ℕ × ℕ)) → Decides (versions_ok test n one two) (Versions R n one two)
decides_versions test R each n None two = ((λ t b low high e f. absurd (cc)), (λ h. refl))
decides_versions test R each n (Some one) None = ((λ t b low high e f. absurd (cc)), (λ h. refl))
decides_versions test R each n (Some one) (Some two) = (
  (λ t b low high e f.
      let a = version_is n b low one e in
      let z = version_is n b high two f in
      let same : (bucket_of n one.0 == bucket_of n two.0) ≡ true = (Decides-eqb (bucket_of n one.0) (bucket_of n two.0)).1 (a.0 ∙ sym z.0) in
      let passes : test one.1 two.1 ≡ true = subst (λ x. (if x then test one.1 two.1 else true) ≡ true) same t in
      subst (λ x. R x high) a.1 (subst (λ x. R one.1 x) z.1 ((each one.1 two.1).0 passes))),
  (λ h.
      by_cases (bucket_of n one.0 == bucket_of n two.0) ((if bucket_of n one.0 == bucket_of n two.0 then test one.1 two.1 else true) ≡ true)
      (λ same.
      let is : bucket_of n one.0 ≡ bucket_of n two.0 = number_is (bucket_of n one.0) (bucket_of n two.0) same in
      subst (λ x. (if x then test one.1 two.1 else true) ≡ true) (sym same)
      ((each one.1 two.1).1 (h (bucket_of n two.0) one.1 two.1 (own_version n one (bucket_of n two.0) is) (own_version n two (bucket_of n two.0) refl))))
      (λ other. subst (λ x. (if x then test one.1 two.1 else true) ≡ true) (sym other) refl)),
)

-- where both tell a number, the first is less
abbrev pub Less : (one two : Option ℕ) → Type 0
Less one two = (low high : ℕ) → one ≡ Some low → two ≡ Some high → low < high

pub decides_rises : (one two : Option ℕ) → Decides (rises_ok one two) (Less one two)
decides_rises None two = ((λ t low high e f. absurd (cc)), (λ h. refl))
decides_rises (Some one) None = ((λ t low high e f. absurd (cc)), (λ h. refl))
decides_rises (Some one) (Some two) = (
  (λ t low high e f.
      let a : one ≡ low = cc in
      let z : two ≡ high = cc in
      subst (λ x. x < high) a (subst (λ x. one < x) z ((decides_less one two).0 t))),
  (λ h. (decides_less one two).1 (h one two refl refl)),
)

number_told : (number : ℕ) (told : Option ℕ) → Decides (has_number number told) (told ≡ Some number)
number_told number None = ((λ t. absurd (cc)), (λ t. absurd (cc)))
number_told number (Some other) = ((λ t. ap Some (number_is other number t)), (λ t. let same : other ≡ number = cc in (Decides-eqb other number).1 same))

-- the same of the test of a number
abbrev pub LessBy : (one two : Option ℕ) → Type 0
LessBy one two = (low high : ℕ) → has_number low one ≡ true → has_number high two ≡ true → low < high

pub decides_numbers : (one two : Option ℕ) → Decides (rises_ok one two) (LessBy one two)
decides_numbers one two =
    Decides-like (rises_ok one two)
    (λ (h : Less one two) low high e f. h low high ((number_told low one).0 e) ((number_told high two).0 f))
    (λ (h : LessBy one two) low high e f. h low high ((number_told low one).1 e) ((number_told high two).1 f))
    (decides_rises one two)

pub decides_empty : (taken : ℕ) (told : Option ℕ) (answer : Answer)
    → Decides (empty_ok taken told answer) ((number : ℕ) → has_number number told ≡ true → answer ≡ answers.Empty → number ≤ taken)
decides_empty taken None answers.Empty = ((λ t number e f. absurd (cc)), (λ h. refl))
decides_empty taken (Some number) answers.Empty = (
  (λ t other e f. subst (λ x. x ≤ taken) (number_is number other e) ((decides_most number taken).0 t)),
  (λ h. (decides_most number taken).1 (h number ((Decides-eqb number number).1 refl) refl)),
)
decides_empty taken told answer = ((λ t number e f. absurd (cc)), (λ h. refl))

pub decides_final : (spent told : Option ℕ) → Decides (final_ok spent told) ((era : ℕ) → spent ≡ Some era → told ≡ None)
decides_final None told = ((λ t era e. absurd (cc)), (λ h. refl))
decides_final (Some era) told = ((λ t other e. (decides_none told).0 t), (λ h. (decides_none told).1 (h era refl)))

-- of a number that a call tells
pub decides_some : (test : ℕ → Bool) (P : ℕ → Type 0) → ((number : ℕ) → Decides (test number) (P number))
    → (told : Option ℕ) → Decides (if_some_ok test told) ((number : ℕ) → told ≡ Some number → P number)
decides_some test P each None = ((λ t number e. absurd (cc)), (λ h. refl))
decides_some test P each (Some number) = (
  (λ t other e. let same : number ≡ other = cc in subst P same ((each number).0 t)),
  (λ h. (each number).1 (h number refl)),
)
