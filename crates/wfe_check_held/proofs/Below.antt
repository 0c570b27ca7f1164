-- Tests of all numbers below one, and of all rows of a set.
use Rattle.std.proofs.Common.{ℕ, zero, suc, ◌≡◌, ◌<◌, ◌≢◌, Bool, true, false, List, [], ◌∷◌, refl, ap, ◌∙◌, arith, inl, inr}
use Rattle.std.proofs.lemmas.Bool.Decides.{nat_tests}
use Rattle.std.specs.List.{list_all}
use Rattle.std.specs.Prelude.{◌==◌, ◌&&◌, ◌||◌}
use Rattle.wfe_defs.proofs.Facts.{both, by_cases, either_true, first_of, number_is, rest_of, same_number}
use Rattle.laws.specs.StateAt.{is_one_of}
use Rattle.wfe_check_held.specs.All.{all_below}

pub at_below : (test : ℕ → Bool) (n : ℕ) → all_below test n ≡ true → (k : ℕ) → k < n → test k ≡ true
at_below test zero h k l = absurd (omega arith)
at_below test (suc n) h k l = by_cases (k == n) (test k ≡ true)
    (λ t. ap test (number_is k n t) ∙ first_of (test n) (all_below test n) h)
    (λ t. let other : k ≢ n = grind (arith, nat_tests) in let less : k < n = omega arith in at_below test n (rest_of (test n) (all_below test n) h) k less)

pub below_by : (test : ℕ → Bool) (n : ℕ) → ((k : ℕ) → k < n → test k ≡ true) → all_below test n ≡ true
below_by test zero h = refl
below_by test (suc n) h = both (test n) (all_below test n) (h n (omega arith)) (below_by test n (λ k l. h k (omega arith)))

pub below_same : (one other : ℕ → Bool) (n : ℕ) → ((k : ℕ) → k < n → one k ≡ other k) → all_below one n ≡ all_below other n
below_same one other zero h = refl
below_same one other (suc n) h = let e : one n ≡ other n = h n (omega arith) in let f : all_below one n ≡ all_below other n = below_same one other n (λ k l. h k (omega arith)) in
    ap (λ (b : Bool). b && all_below one n) e ∙ ap (λ (b : Bool). other n && b) f

pub at_one_of : (test : ℕ → Bool) (rows : List ℕ) → list_all test rows ≡ true → (s : ℕ) → is_one_of s rows ≡ true → test s ≡ true
at_one_of test [] h s t = absurd (let no : false ≡ true = t in (cc))
at_one_of test (row ∷ rows) h s t = elim (either_true (s == row) (is_one_of s rows) t) as (λ _. test s ≡ true) [
  | inl u ↦ ap test (number_is s row u) ∙ first_of (test row) (list_all test rows) h
  | inr u ↦ at_one_of test rows (rest_of (test row) (list_all test rows) h) s u
]

here : (row : ℕ) (b : Bool) → ((row == row) || b) ≡ true
here row b = let e : (row == row) ≡ true = same_number row in rw e refl

later : (a b : Bool) → b ≡ true → (a || b) ≡ true
later true b h = refl
later false b h = h

pub one_of_by : (test : ℕ → Bool) (rows : List ℕ) → ((s : ℕ) → is_one_of s rows ≡ true → test s ≡ true) → list_all test rows ≡ true
one_of_by test [] h = refl
one_of_by test (row ∷ rows) h = both (test row) (list_all test rows) (h row (here row (is_one_of row rows))) (one_of_by test rows (λ s t. h s (later (s == row) (is_one_of s rows) t)))
