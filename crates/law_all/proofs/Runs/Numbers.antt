-- Tests as numbers, and the numbers up to a greatest one.
use Rattle.std.proofs.Common.{ℕ, ◌≡◌, ◌+◌, ◌≤◌, Bool, true, false, refl, arith}
use Rattle.std.proofs.lemmas.Bool.Decides.{nat_tests}
use Rattle.std.specs.Prelude.{if◌then◌else◌, nat_le, ◌&&◌, ◌==◌}
use Rattle.law_all.proofs.inv.model.Facts.{first_of, number_is}
use Rattle.law_all.specs.laws.StateAt.{one}
use Rattle.law_all.specs.RunLaw.{once_up_to}

pub one_counts : (b : Bool) → (if b then 1 else 0) ≡ one b
one_counts true = refl
one_counts false = refl

-- equal in either order
pub same_either : (a b : ℕ) → (a == b) ≡ true → (b == a) ≡ true
same_either a b h = grind (arith, nat_tests)

pub differs_either : (a b : ℕ) → (a == b) ≡ false → (b == a) ≡ false
differs_either a b h = grind (arith, nat_tests)

-- the first of two tests
pub first_is : (number next : ℕ) (more : Bool) → (number == next && more) ≡ true → number ≡ next
first_is number next more h = number_is number next (first_of (number == next) more h)

-- the numbers from 1 to the greatest
pub once_none : (number : ℕ) → once_up_to 0 number ≡ 0
once_none number = grind (arith, nat_tests)

pub once_more : (greatest next number : ℕ) → next ≡ greatest + 1 → once_up_to next number ≡ once_up_to greatest number + one (next == number)
once_more greatest next number e = by (next == number) refl
  where
    by : (same : Bool) → (next == number) ≡ same → once_up_to next number ≡ once_up_to greatest number + one (next == number)
    by true h = rw h (grind (arith, nat_tests))
    by false h = rw h (grind (arith, nat_tests))

pub at_most_once : (greatest number : ℕ) → once_up_to greatest number ≤ 1
at_most_once greatest number = by (nat_le 1 number && nat_le number greatest)
  where
    by : (b : Bool) → (if b then 1 else 0) ≤ 1
    by true = omega arith
    by false = omega arith
