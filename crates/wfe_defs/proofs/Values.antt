-- What a change does to a key's value.
use Rattle.std.proofs.Common.{ℕ, ◌≡◌, ◌==◌, ◌+◌, ◌<◌, ◌++◌, if◌then◌else◌, List, [], ◌∷◌, Some, None, length, take, get_or, refl, ap, ◌∙◌, arith}
use Rattle.std.proofs.lemmas.Bool.Decides.{nat_tests}
use Rattle.std.proofs.lemmas.List.{take_more}
use Rattle.wfe_defs.specs.declared.fold.Change.{Change}
use Rattle.wfe_defs.specs.declared.fold.Change.TheVariants as changes
use Rattle.wfe_defs.specs.Pairs.{Pair, with_pair, without_key, changed, pairs_from, pairs_after, value_in, value_after}

pub value_in-with_pair : (ps : List Pair) (put value key : ℕ) → value_in (with_pair ps put value) key ≡ (if put == key then Some value else value_in ps key)
value_in-with_pair [] put value key = refl
value_in-with_pair (p ∷ ps) put value key = grind (arith, nat_tests, value_in-with_pair ps put value key)

pub value_in-without_key : (ps : List Pair) (removed key : ℕ) → value_in (without_key ps removed) key ≡ (if removed == key then None else value_in ps key)
value_in-without_key [] removed key = grind (arith, nat_tests)
value_in-without_key (p ∷ ps) removed key = grind (arith, nat_tests, value_in-without_key ps removed key)

pub value_in-changed : (ps : List Pair) (c : Change) (key : ℕ) → value_in (changed ps c) key ≡ value_after (value_in ps key) c key
value_in-changed ps (changes.Put put value) key = value_in-with_pair ps put value key
value_in-changed ps (changes.Removed removed) key = value_in-without_key ps removed key

pub pairs_from-append : (ps : List Pair) (cs ds : List Change) → pairs_from ps (cs ++ ds) ≡ pairs_from (pairs_from ps cs) ds
pairs_from-append ps [] ds = refl
pairs_from-append ps (c ∷ cs) ds = pairs_from-append (changed ps c) cs ds

-- one more change
pub value_steps : (cs : List Change) (i : ℕ) (d : Change) (key : ℕ) → i < length cs →
    value_in (pairs_after (take (i + 1) cs)) key ≡ value_after (value_in (pairs_after (take i cs)) key) (get_or cs i d) key
value_steps cs i d key h =
    ap (λ (xs : List Change). value_in (pairs_after xs) key) (take_more cs i d h)
    ∙ ap (λ (ps : List Pair). value_in ps key) (pairs_from-append [] (take i cs) (get_or cs i d ∷ []))
    ∙ value_in-changed (pairs_after (take i cs)) (get_or cs i d) key
