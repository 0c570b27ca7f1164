-- Slots that are settled, one after another.
use Rattle.std.proofs.Common.{ℕ, zero, suc, map, ◌≡◌, ◌⊎◌, inl, inr, ◌≤◌, ◌<◌, ◌+◌, Bool, true, false, List, [], ◌∷◌, ◌++◌, length, refl, sym, ap, ◌∙◌, arith, append_assoc, length-append}
use Rattle.std.proofs.lemmas.Bool.{cases_eq}
use Rattle.std.proofs.lemmas.Bool.Decides.{nat_tests}
use Rattle.std.proofs.lemmas.List.{append-nil, get_or-set_other, get_or-set_same, length-set}
use Rattle.std.specs.Prelude.{◌==◌, ◌||◌, if◌then◌else◌, Option, None, Some, is_some, replicate, slice_set}
use Rattle.laws.specs.StateAt.{is_one_of, without_row}
use Rattle.wfe_final.specs.Ledgers.{LedgerNow}
use Rattle.wfe_final.specs.Slots.{Ids, Settles, call_of, calls_at, firsts, id_at}

without-append : (x : ℕ) (xs ys : List ℕ) → without_row x (xs ++ ys) ≡ without_row x xs ++ without_row x ys
without-append x [] ys = refl
without-append x (y ∷ xs) ys = by (x == y) refl (without-append x xs ys)
  where
    by : (same : Bool) → (x == y) ≡ same → without_row x (xs ++ ys) ≡ without_row x xs ++ without_row x ys → without_row x (y ∷ (xs ++ ys)) ≡ without_row x (y ∷ xs) ++ without_row x ys
    by true e h = rw e h
    by false e h = rw e (ap (λ (zs : List ℕ). y ∷ zs) h)

-- the list of firsts with one slot more at the end
abbrev with_last : Bool → ℕ → List ℕ → List ℕ
with_last among slot slots = if among then slots else slots ++ slot ∷ []

firsts_more : (slots : List ℕ) (slot : ℕ) → firsts (slots ++ slot ∷ []) ≡ with_last (is_one_of slot slots) slot (firsts slots)
firsts_more [] slot = refl
firsts_more (x ∷ xs) slot = ap (λ (zs : List ℕ). x ∷ without_row x zs) (firsts_more xs slot) ∙ by (slot == x) refl (is_one_of slot xs)
  where
    apart : (slot == x) ≡ false → (x == slot) ≡ false
    apart e = grind (arith, nat_tests)

    by : (same : Bool) → (slot == x) ≡ same → (among : Bool) → x ∷ without_row x (with_last among slot (firsts xs)) ≡ with_last ((slot == x) || among) slot (x ∷ without_row x (firsts xs))
    by true e true = rw e refl
    by false e true = rw e refl
    by true e false =
        let one : (x == slot) ≡ true = grind (arith, nat_tests) in
        let none : without_row x (slot ∷ []) ≡ [] = rw one refl in
        rw e (ap (λ (zs : List ℕ). x ∷ zs) (without-append x (firsts xs) (slot ∷ []) ∙ ap (λ (zs : List ℕ). without_row x (firsts xs) ++ zs) none ∙ append-nil (without_row x (firsts xs))))
    by false e false =
        let stays : without_row x (slot ∷ []) ≡ slot ∷ [] = rw (apart e) refl in
        rw e (ap (λ (zs : List ℕ). x ∷ zs) (without-append x (firsts xs) (slot ∷ []) ∙ ap (λ (zs : List ℕ). without_row x (firsts xs) ++ zs) stays))

calls_at-append : (ids : Ids) (xs ys : List ℕ) → calls_at ids (xs ++ ys) ≡ calls_at ids xs ++ calls_at ids ys
calls_at-append ids [] ys = refl
calls_at-append ids (x ∷ xs) ys =
    ap (λ (cs : List (ℕ × ℕ)). call_of (id_at ids x) x ++ cs) (calls_at-append ids xs ys)
    ∙ sym (append_assoc (call_of (id_at ids x) x) (calls_at ids xs) (calls_at ids ys))

-- the deleter that a slot still has, after these slots were settled
abbrev still : Bool → Option ℕ → Option ℕ
still gone before = if gone then None else before

calls_more : (ids : Ids) (slots : List ℕ) (slot : ℕ) → calls_at ids (firsts (slots ++ slot ∷ [])) ≡ calls_at ids (firsts slots) ++ call_of (still (is_one_of slot slots) (id_at ids slot)) slot
calls_more ids slots slot = ap (calls_at ids) (firsts_more slots slot) ∙ by (is_one_of slot slots)
  where
    by : (among : Bool) → calls_at ids (with_last among slot (firsts slots)) ≡ calls_at ids (firsts slots) ++ call_of (still among (id_at ids slot)) slot
    by true = sym (append-nil (calls_at ids (firsts slots)))
    by false =
        calls_at-append ids (firsts slots) (slot ∷ [])
        ∙ ap (λ (cs : List (ℕ × ℕ)). calls_at ids (firsts slots) ++ cs) (append-nil (call_of (id_at ids slot) slot))

is_one_of-last : (s : ℕ) (slots : List ℕ) (slot : ℕ) → is_one_of s (slots ++ slot ∷ []) ≡ (is_one_of s slots || (s == slot))
is_one_of-last s [] slot = by (s == slot)
  where
    by : (same : Bool) → (same || false) ≡ same
    by true = refl
    by false = refl
is_one_of-last s (x ∷ xs) slot = by (s == x) (is_one_of-last s xs slot)
  where
    by : (same : Bool) → is_one_of s (xs ++ slot ∷ []) ≡ (is_one_of s xs || (s == slot)) → (same || is_one_of s (xs ++ slot ∷ [])) ≡ ((same || is_one_of s xs) || (s == slot))
    by true h = refl
    by false h = h

-- how many calls there are at most
length-call_of : (id : Option ℕ) (slot : ℕ) → length (call_of id slot) ≤ 1
length-call_of None slot = omega arith
length-call_of (Some id) slot = omega arith

length-without : (x : ℕ) (xs : List ℕ) → length (without_row x xs) ≤ length xs
length-without x [] = omega arith
length-without x (y ∷ xs) = by (x == y) refl (length-without x xs)
  where
    by : (same : Bool) → (x == y) ≡ same → length (without_row x xs) ≤ length xs → length (without_row x (y ∷ xs)) ≤ length (y ∷ xs)
    by true e h = rw e (omega arith)
    by false e h = rw e (omega arith)

length-firsts : (xs : List ℕ) → length (firsts xs) ≤ length xs
length-firsts [] = omega arith
length-firsts (x ∷ xs) = omega (arith, length-without x (firsts xs), length-firsts xs)

length-calls_at : (ids : Ids) (xs : List ℕ) → length (calls_at ids xs) ≤ length xs
length-calls_at ids [] = omega arith
length-calls_at ids (x ∷ xs) =
    omega (arith, length-append (call_of (id_at ids x) x) (calls_at ids xs), length-call_of (id_at ids x) x, length-calls_at ids xs)

pub few_calls : (ids : Ids) (slots : List ℕ) → length (calls_at ids (firsts slots)) ≤ length slots
few_calls ids slots = omega (arith, length-calls_at ids (firsts slots), length-firsts slots)

-- before the first slot
pub settles_none : (ids : Ids) (ledger : LedgerNow) → Settles ids ids [] ledger ledger
settles_none ids ledger = record { calls = sym (append-nil ledger.calls); spare = omega arith; left = λ slot. refl; same = refl }

-- there is room for the next slot's call
pub room_for : (old mid : Ids) (done : List ℕ) (before after : LedgerNow) (slot count : ℕ) → Settles old mid done before after → length done < count → count ≤ before.spare → length (call_of (id_at mid slot) slot) ≤ after.spare
room_for old mid done before after slot count s more room = omega (arith, s.spare, few_calls old done, length-call_of (id_at mid slot) slot)

-- with the next slot
pub settles_more : (old mid new : Ids) (done : List ℕ) (slot : ℕ) (first before after : LedgerNow) → Settles old mid done first before → slot < length mid
    → after.calls ≡ before.calls ++ call_of (id_at mid slot) slot → after.spare + length (call_of (id_at mid slot) slot) ≡ before.spare → new ≡ slice_set mid slot None → Settles old new (done ++ slot ∷ []) first after
settles_more old mid new done slot first before after s within calls spare set =
    let here : id_at mid slot ≡ still (is_one_of slot done) (id_at old slot) = s.left slot in
    let called : call_of (id_at mid slot) slot ≡ call_of (still (is_one_of slot done) (id_at old slot)) slot = ap (λ (id : Option ℕ). call_of id slot) here in
    let all : calls_at old (firsts (done ++ slot ∷ [])) ≡ calls_at old (firsts done) ++ call_of (id_at mid slot) slot = calls_more old done slot ∙ ap (λ (cs : List (ℕ × ℕ)). calls_at old (firsts done) ++ cs) (sym called) in
    let more : calls_at old (firsts done) ++ call_of (id_at mid slot) slot ≡ calls_at old (firsts (done ++ slot ∷ [])) = sym all in
    record {
      calls =
          calls
          ∙ ap (λ (cs : List (ℕ × ℕ)). cs ++ call_of (id_at mid slot) slot) s.calls
          ∙ append_assoc first.calls (calls_at old (firsts done)) (call_of (id_at mid slot) slot)
          ∙ ap (λ (cs : List (ℕ × ℕ)). first.calls ++ cs) more;
      spare = omega (arith, spare, s.spare, ap length all, length-append (calls_at old (firsts done)) (call_of (id_at mid slot) slot));
      left = λ other. ap (λ (ids : Ids). id_at ids other) set ∙ left_after other (cases_eq other slot);
      same = ap length set ∙ length-set mid slot None ∙ s.same;
    }
  where
    left_by : (other : ℕ) (same : Bool) → (other == slot) ≡ same → id_at (slice_set mid slot None) other ≡ still (same) (still (is_one_of other done) (id_at old other)) → id_at (slice_set mid slot None) other ≡ still (is_one_of other (done ++ slot ∷ [])) (id_at old other)
    left_by other same e h = h ∙ joined same (is_one_of other done) ∙ ap (λ (b : Bool). still (is_one_of other done || b) (id_at old other)) (sym e) ∙ ap (λ (b : Bool). still b (id_at old other)) (sym (is_one_of-last other done slot))
      where
        joined : (same among : Bool) → still same (still among (id_at old other)) ≡ still (among || same) (id_at old other)
        joined true true = refl
        joined true false = refl
        joined false true = refl
        joined false false = refl

    left_after : (other : ℕ) → (other ≡ slot) ⊎ (other ≡ slot → ⊥) → id_at (slice_set mid slot None) other ≡ still (is_one_of other (done ++ slot ∷ [])) (id_at old other)
    left_after other (inl e) =
        left_by other true (grind (arith, nat_tests)) (ap (λ (n : ℕ). id_at (slice_set mid slot None) n) e ∙ get_or-set_same mid slot None None within)
    left_after other (inr ne) =
        left_by other false (grind (arith, nat_tests)) (get_or-set_other mid slot other None None ne ∙ s.left other)

-- how many calls there are, with the next slot's
pub length_more : (old mid : Ids) (done : List ℕ) (slot : ℕ) (first before : LedgerNow) → Settles old mid done first before
    → length (calls_at old (firsts (done ++ slot ∷ []))) ≡ length (calls_at old (firsts done)) + length (call_of (id_at mid slot) slot)
length_more old mid done slot first before s =
    ap length (calls_more old done slot)
    ∙ length-append (calls_at old (firsts done)) (call_of (still (is_one_of slot done) (id_at old slot)) slot)
    ∙ ap (λ (id : Option ℕ). length (calls_at old (firsts done)) + length (call_of id slot)) (sym (s.left slot))

pub one_call : (id : Option ℕ) (slot : ℕ) → is_some id ≡ true → length (call_of id slot) ≡ 1
one_call None slot h = absurd (cc)
one_call (Some id) slot h = refl

pub no_call : (id : Option ℕ) (slot : ℕ) → is_some id ≡ false → length (call_of id slot) ≡ 0
no_call None slot h = refl
no_call (Some id) slot h = absurd (cc)

pub map-replicate : {X Y : Type 0} (f : X → Y) (n : ℕ) (x : X) → map f (replicate n x) ≡ replicate n (f x)
map-replicate f zero x = refl
map-replicate {Y = Y} f (suc n) x = ap (λ (ys : List Y). f x ∷ ys) (map-replicate f n x)
