-- Pairs read one by one, and changes that grow.
use Rattle.std.proofs.Common.{ℕ, zero, suc, ◌+◌, ◌<◌, ◌≡◌, true, false, arith, refl, ap, ◌∙◌, List, [], ◌∷◌, ◌++◌, length}
use Rattle.std.specs.Prelude.{◌==◌, take, drop, Some}
use Rattle.inv_ends.specs.model.defs.Pairs.{Pair, changed, pairs_from, pairs_after, value_in}
use Rattle.inv_ends.specs.model.defs.declared.fold.Change.{Change}
use Rattle.inv_all.specs.Contents.Knows.{pair_at}

pub from_append : (ps : List Pair) (cs : List Change) (c : Change) → pairs_from ps (cs ++ c ∷ []) ≡ changed (pairs_from ps cs) c
from_append ps [] c = refl
from_append ps (d ∷ cs) c = from_append (changed ps d) cs c

-- the pairs with one change more
pub after_append : (cs : List Change) (c : Change) → pairs_after (cs ++ c ∷ []) ≡ changed (pairs_after cs) c
after_append cs c = from_append [] cs c

-- the pairs read so far, with the next
take_suc : (ps : List Pair) (n : ℕ) → n < length ps → take n ps ++ pair_at ps n ∷ [] ≡ take (suc n) ps
take_suc [] n h = absurd (omega arith)
take_suc (p ∷ ps) zero h = refl
take_suc (p ∷ ps) (suc n) h = ap (λ (l : List Pair). p ∷ l) (take_suc ps n (omega arith))

one_more : (n : ℕ) → suc n ≡ n + 1
one_more n = omega arith

pub take_next : (ps : List Pair) (n : ℕ) → n < length ps → take n ps ++ pair_at ps n ∷ [] ≡ take (n + 1) ps
take_next ps n h = take_suc ps n h ∙ ap (λ (k : ℕ). take k ps) (one_more n)

-- a get goes on to the next pair where a key is another, has found its own where it is the same, and ends where there is none
value_suc : (ps : List Pair) (n key : ℕ) → n < length ps → ((pair_at ps n).0 == key) ≡ false → value_in (drop n ps) key ≡ value_in (drop (suc n) ps) key
value_suc [] n key h e = absurd (omega arith)
value_suc (p ∷ ps) zero key h e = rw e refl
value_suc (p ∷ ps) (suc n) key h e = value_suc ps n key (omega arith) e

pub value_next : (ps : List Pair) (n key : ℕ) → n < length ps → ((pair_at ps n).0 == key) ≡ false → value_in (drop n ps) key ≡ value_in (drop (n + 1) ps) key
value_next ps n key h e = value_suc ps n key h e ∙ ap (λ (k : ℕ). value_in (drop k ps) key) (one_more n)

pub value_here : (ps : List Pair) (n key : ℕ) → n < length ps → ((pair_at ps n).0 == key) ≡ true → value_in (drop n ps) key ≡ Some (pair_at ps n).1
value_here [] n key h e = absurd (omega arith)
value_here (p ∷ ps) zero key h e = rw e refl
value_here (p ∷ ps) (suc n) key h e = value_here ps n key (omega arith) e
