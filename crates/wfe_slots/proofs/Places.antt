-- Keys among pairs, and the pairs that a change leaves.
use Rattle.std.proofs.Common.{ℕ, zero, suc, ◌≡◌, ◌+◌, ◌<◌, ◌≤◌, Bool, true, false, List, [], ◌∷◌, ◌++◌, length, take, Option, Some, None, refl, sym, ap, arith, length-append}
use Rattle.std.proofs.lemmas.List.{take_more, length-take}
use Rattle.std.proofs.Math.Seq.{take-set-lt}
use Rattle.std.proofs.lemmas.Bool.Decides.{nat_tests}
use Rattle.std.specs.Prelude.{◌==◌, slice_index_or, slice_set, is_some, min, if◌then◌else◌}
use Rattle.wfe_core.specs.defs.Pairs.{Pair, value_in, with_pair, without_key}
use Rattle.wfe_slots.specs.Places.{IsPlace, with_other}

-- one more pair that has another key
value_in_more : (ps : List Pair) (p : Pair) (key : ℕ) → value_in ps key ≡ None → (p.0 == key) ≡ false → value_in (ps ++ p ∷ []) key ≡ None
value_in_more [] p key n e = grind (arith, nat_tests)
value_in_more (q ∷ ps) p key n e = grind (arith, nat_tests, value_in_more ps p key)

without_step : (ps : List Pair) (p : Pair) (key : ℕ) → without_key (ps ++ p ∷ []) key ≡ with_other (without_key ps key) p key
without_step [] p key = grind (arith, nat_tests)
without_step (q ∷ ps) p key = grind (arith, nat_tests, without_step ps p key)

other_by : (ps : List Pair) (p : Pair) (same : Bool) → length (if same then ps else ps ++ p ∷ []) ≤ length ps + 1
other_by ps p true = omega arith
other_by ps p false = omega (arith, length-append ps (p ∷ []))

pub other_more : (ps : List Pair) (p : Pair) (key : ℕ) → length (with_other ps p key) ≤ length ps + 1
other_more ps p key = other_by ps p (p.0 == key)

-- a new key goes last
pub with_new : (ps : List Pair) (key value : ℕ) → value_in ps key ≡ None → with_pair ps key value ≡ ps ++ (key, value) ∷ []
with_new [] key value n = refl
with_new (q ∷ ps) key value n = grind (arith, nat_tests, with_new ps key value)

-- a key that is there keeps its place
pub with_there : (ps : List Pair) (key value place : ℕ) → place < length ps → value_in (take place ps) key ≡ None → (slice_index_or ps place (0, 0)).0 ≡ key → with_pair ps key value ≡ slice_set ps place (key, value)
with_there [] key value place h n e = absurd (omega arith)
with_there (q ∷ ps) key value zero h n e = grind (arith, nat_tests)
with_there (q ∷ ps) key value (suc place) h n e = grind (arith, nat_tests, with_there ps key value place)

-- it has a value
there_has : (ps : List Pair) (key place : ℕ) → place < length ps → (slice_index_or ps place (0, 0)).0 ≡ key → is_some (value_in ps key) ≡ true
there_has [] key place h e = absurd (omega arith)
there_has (q ∷ ps) key zero h e = grind (arith, nat_tests)
there_has (q ∷ ps) key (suc place) h e = grind (arith, nat_tests, there_has ps key place)

-- how many pairs a put leaves
pub with_more : (ps : List Pair) (key value : ℕ) → length (with_pair ps key value) ≤ length ps + 1
with_more [] key value = omega arith
with_more (q ∷ ps) key value = grind (arith, nat_tests, with_more ps key value)

pub with_same : (ps : List Pair) (key value : ℕ) → is_some (value_in ps key) ≡ true → length (with_pair ps key value) ≡ length ps
with_same [] key value h = absurd (cc)
with_same (q ∷ ps) key value h = grind (arith, nat_tests, with_same ps key value)

-- the pairs so far and one more
pub place_on : (ps : List Pair) (p : Pair) (key place : ℕ) → place < length ps → p ≡ slice_index_or ps place (0, 0) → value_in (take place ps) key ≡ None → (p.0 == key) ≡ false → value_in (take (place + 1) ps) key ≡ None
place_on ps p key place h is n e =
    rw (take_more ps place (0, 0) h, ← is) (value_in_more (take place ps) p key n e)

pub rest_on : (ps rest : List Pair) (p : Pair) (key place : ℕ) → place < length ps → p ≡ slice_index_or ps place (0, 0) → rest ≡ without_key (take place ps) key → with_other rest p key ≡ without_key (take (place + 1) ps) key
rest_on ps rest p key place h is r =
    rw (take_more ps place (0, 0) h, ← is, r) (sym (without_step (take place ps) p key))

-- a store into the pairs, as the array holds them
set_view : (pairs : List Pair) (len place : ℕ) (p : Pair) → place < length (take len pairs) → take len (slice_set pairs place p) ≡ slice_set (take len pairs) place p
set_view pairs len place p h =
    let few : length (take len pairs) ≡ min len (length pairs) = length-take len pairs in
    take-set-lt len pairs place p (omega (arith, few))

no_key : (ps : List Pair) (key : ℕ) → value_in ps key ≡ None → is_some (value_in ps key) ≡ false
no_key ps key e = rw e refl

-- a key has a place where it has a value
pub has_by : (ps : List Pair) (key : ℕ) (place : Option ℕ) → IsPlace ps key place → is_some place ≡ is_some (value_in ps key)
has_by ps key None h = sym (no_key ps key h)
has_by ps key (Some place) h = sym (there_has ps key place h.0 h.2)

-- there is room for a new key
pub put_fits : (ps : List Pair) (key value : ℕ) → value_in ps key ≡ None → length (with_pair ps key value) ≤ 14 → length ps < 14
put_fits ps key value n h =
    let e : length (with_pair ps key value) ≡ length (ps ++ (key, value) ∷ []) = ap length (with_new ps key value n) in
    omega (arith, e, length-append ps ((key, value) ∷ []), h)

pub set_at : (pairs view : List Pair) (len place : ℕ) (p : Pair) → take len pairs ≡ view → place < length view → take len (slice_set pairs place p) ≡ slice_set view place p
set_at pairs view len place p e h = rw (← e) (set_view pairs len place p (rw e h))
