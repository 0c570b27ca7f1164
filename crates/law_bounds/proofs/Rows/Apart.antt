-- Rows that are apart: of two lists, and of several parts, each of which has just the rows that pass a test.
use Rattle.std.proofs.Common.{ℕ, ◌≡◌, Bool, true, false, List, [], ◌∷◌, ◌++◌, refl, sym, ap, ◌∙◌, ◌⊎◌}
use Rattle.std.specs.Prelude.{◌==◌, ◌||◌, not}
use Rattle.law_all.proofs.inv.model.Facts.{both, either_true, false_by, false_of_not, first_of, not_of_false, or_more, rest_of, same_or}
use Rattle.law_all.specs.laws.StateAt.{is_one_of}
use Rattle.law_bounds.specs.Rows.{are_apart}

pub same_bool : (a b : Bool) → (a ≡ true → b ≡ true) → (b ≡ true → a ≡ true) → a ≡ b
same_bool true b f g = sym (f refl)
same_bool false true f g = g refl
same_bool false false f g = refl

regroup : (a b c : Bool) → (a || (b || c)) ≡ ((a || b) || c)
regroup true b c = refl
regroup false b c = refl

-- a row among two lists
pub among_both : (s : ℕ) (xs ys : List ℕ) → is_one_of s (xs ++ ys) ≡ (is_one_of s xs || is_one_of s ys)
among_both s [] ys = refl
among_both s (x ∷ xs) ys = ap (λ (b : Bool). (s == x) || b) (among_both s xs ys) ∙ regroup (s == x) (is_one_of s xs) (is_one_of s ys)

pub among_either : (s : ℕ) (xs ys : List ℕ) → is_one_of s (xs ++ ys) ≡ true → (is_one_of s xs ≡ true) ⊎ (is_one_of s ys ≡ true)
among_either s xs ys h = either_true (is_one_of s xs) (is_one_of s ys) (sym (among_both s xs ys) ∙ h)

none_of : (a b : Bool) → a ≡ false → b ≡ false → (a || b) ≡ false
none_of true b h k = h
none_of false b h k = k

among_none : (s : ℕ) (xs ys : List ℕ) → is_one_of s xs ≡ false → is_one_of s ys ≡ false → is_one_of s (xs ++ ys) ≡ false
among_none s xs ys a b = among_both s xs ys ∙ none_of (is_one_of s xs) (is_one_of s ys) a b

pub apart_both : (xs ys : List ℕ) → are_apart xs ≡ true → are_apart ys ≡ true → ((s : ℕ) → is_one_of s xs ≡ true → is_one_of s ys ≡ true → ⊥) → are_apart (xs ++ ys) ≡ true
apart_both [] ys a b h = b
apart_both (x ∷ xs) ys a b h =
    let new : is_one_of x xs ≡ false = false_of_not (is_one_of x xs) (first_of (not (is_one_of x xs)) (are_apart xs) a) in
    let other : is_one_of x ys ≡ false = false_by (is_one_of x ys) (λ e. h x (same_or x (is_one_of x xs)) e) in
    both (not (is_one_of x (xs ++ ys))) (are_apart (xs ++ ys))
    (not_of_false (is_one_of x (xs ++ ys)) (among_none x xs ys new other))
    (apart_both xs ys (rest_of (not (is_one_of x xs)) (are_apart xs) a) b (λ s p q. h s (or_more (s == x) (is_one_of s xs) p) q))

-- a part: its rows are those that pass the test, and are apart
pub record Part (test : ℕ → Bool) (rows : List ℕ) : Type 0 where
  pub is : (s : ℕ) → is_one_of s rows ≡ test s
  pub apart : are_apart rows ≡ true

pub part_both : (f g : ℕ → Bool) (xs ys : List ℕ) → Part f xs → Part g ys → ((s : ℕ) → f s ≡ true → g s ≡ true → ⊥) → Part (λ s. f s || g s) (xs ++ ys)
part_both f g xs ys a b h = record {
  is = λ s. among_both s xs ys ∙ ap (λ (x : Bool). x || is_one_of s ys) (a.is s) ∙ ap (λ (x : Bool). f s || x) (b.is s);
  apart = apart_both xs ys a.apart b.apart (λ s p q. h s (sym (a.is s) ∙ p) (sym (b.is s) ∙ q));
}

pub part_as : (f g : ℕ → Bool) (rows : List ℕ) → ((s : ℕ) → f s ≡ g s) → Part f rows → Part g rows
part_as f g rows e a = record { is = λ s. a.is s ∙ e s; apart = a.apart }
