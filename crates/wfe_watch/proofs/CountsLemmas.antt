-- Counts after one more entry.
use Rattle.std.proofs.Common.{◌≡◌, ℕ, ◌+◌, cond, Bool, true, false, List, [], ◌∷◌, ◌++◌, ap, ◌∙◌, arith}
use Rattle.std.specs.List.{count_by}
use Rattle.std.proofs.lemmas.List.Sums.{sum_by_push}
use Rattle.wfe_watch.specs.Counts.{capped, raised}

-- where a count is kept, one more is kept
pub capped_more : (more : Bool) (n : ℕ) → capped (n + cond more 1 0) ≡ raised more (capped n)
capped_more true n = omega arith
capped_more false n = omega arith

-- the count of those that pass, after one more
pub capped-count_by_push : {X : Type 0} (p : X → Bool) (xs : List X) (x : X) → capped (count_by p (xs ++ x ∷ [])) ≡ raised (p x) (capped (count_by p xs))
capped-count_by_push p xs x =
    ap capped (sum_by_push (λ y. cond (p y) 1 0) xs x) ∙ capped_more (p x) (count_by p xs)
