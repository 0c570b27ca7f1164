-- Numbers that calls tell: the greatest one, and the numbers from 1 to it, each once.
use Rattle.std.proofs.Common.{Bool, List, None, Option, Some, [], ap, arith, false, inl, inr, max, refl, suc, sym, true, ℕ, ◌+◌, ◌<◌, ◌==◌, ◌∙◌, ◌∷◌, ◌≡◌, ◌≤◌, ◌⊎◌}
use Rattle.std.proofs.lemmas.Bool.Decides.{Decides-eqb, nat_tests}
use Rattle.std.proofs.lemmas.List.Sums.{sum_by-cons}
use Rattle.std.specs.Bool.{Decides}
use Rattle.std.specs.Prelude.{count_by, if◌then◌else◌, nat_le, nat_lt}
use Rattle.law_all.proofs.inv.model.Facts.{by_cases}
use Rattle.law_all.specs.inv.model.Locals.{Group}
use Rattle.law_all.specs.RunLaw.{has_number, once_up_to, total_of}
use Rattle.law_worked.specs.RunRecords.Readers.{greatest, greatest_in, number_or_none, once_ok, single_ok, tellers}
use Rattle.law_worked.proofs.RunRecords.Splits.{decides_below}

-- the first of a log, and the others

pub count_more : (test : Group → Bool) (group : Group) (log : List Group) → count_by test (group ∷ log) ≡ (if test group then 1 else 0) + count_by test log
count_more test group log = sum_by-cons (λ x. if test x then 1 else 0) group log

pub total_more : (test : Group → Bool) (log : List Group) (logs : List (List Group)) → total_of test (log ∷ logs) ≡ count_by test log + total_of test logs
total_more test log logs = sum_by-cons (λ x. count_by test x) log logs

-- a number above another one

other_number : (number : ℕ) (told : Option ℕ) → number_or_none told < number → has_number number told ≡ false
other_number number None l = refl
other_number number (Some other) l = grind (arith, nat_tests)

same_number : (number : ℕ) (told : Option ℕ) → number ≡ number_or_none told → 0 < number → has_number number told ≡ true
same_number number None e l = absurd (omega arith)
same_number number (Some other) e l = grind (arith, nat_tests)

-- no call tells a number above the greatest

none_in : (f : Group → Option ℕ) (number : ℕ) (log : List Group) → greatest_in f log < number → count_by (λ group. has_number number (f group)) log ≡ 0
none_in f number [] l = refl
none_in f number (group ∷ log) l =
    let low : number_or_none (f group) < number = omega arith in
    let less : greatest_in f log < number = omega arith in
    count_more (λ x. has_number number (f x)) group log
    ∙ ap (λ b. (if b then 1 else 0) + count_by (λ x. has_number number (f x)) log) (other_number number (f group) low)
    ∙ ap (λ n. 0 + n) (none_in f number log less)

pub none_above : (f : Group → Option ℕ) (number : ℕ) (logs : List (List Group)) → greatest f logs < number → tellers f number logs ≡ 0
none_above f number [] l = refl
none_above f number (log ∷ logs) l =
    let low : greatest_in f log < number = omega arith in
    let less : greatest f logs < number = omega arith in
    let here : count_by (λ x. has_number number (f x)) log ≡ 0 = none_in f number log low in
    let there : tellers f number logs ≡ 0 = none_above f number logs less in
    omega (arith, total_more (λ x. has_number number (f x)) log logs, here, there)

-- and one tells the greatest

max_is : (number a b : ℕ) → number ≡ max a b → (number ≡ a) ⊎ (number ≡ b)
max_is number a b e =
    by_cases (nat_le a b) ((number ≡ a) ⊎ (number ≡ b))
    (λ l. let low : a ≤ b = grind (arith, nat_tests) in inr (omega arith))
    (λ l. let low : b < a = grind (arith, nat_tests) in inl (omega arith))

told_in : (f : Group → Option ℕ) (number : ℕ) (log : List Group) → number ≡ greatest_in f log → 0 < number
    → 1 ≤ count_by (λ group. has_number number (f group)) log
told_in f number [] e l = absurd (omega arith)
told_in f number (group ∷ log) e l =
    elim (max_is number (number_or_none (f group)) (greatest_in f log) e) [
      | inl is ↦
          let more : count_by (λ x. has_number number (f x)) (group ∷ log) ≡ 1 + count_by (λ x. has_number number (f x)) log =
          count_more (λ x. has_number number (f x)) group log
          ∙ ap (λ b. (if b then 1 else 0) + count_by (λ x. has_number number (f x)) log) (same_number number (f group) is l) in
          omega (arith, more)
      | inr is ↦
          omega (arith, count_more (λ x. has_number number (f x)) group log, told_in f number log is l)
    ]

pub greatest_told : (f : Group → Option ℕ) (number : ℕ) (logs : List (List Group)) → number ≡ greatest f logs → 0 < number → 1 ≤ tellers f number logs
greatest_told f number [] e l = absurd (omega arith)
greatest_told f number (log ∷ logs) e l =
    elim (max_is number (greatest_in f log) (greatest f logs) e) [
      | inl is ↦ omega (arith, total_more (λ x. has_number number (f x)) log logs, told_in f number log is l)
      | inr is ↦ omega (arith, total_more (λ x. has_number number (f x)) log logs, greatest_told f number logs is l)
    ]

-- the numbers up to one

pub once_within : (most number : ℕ) → 1 ≤ number → number ≤ most → once_up_to most number ≡ 1
once_within most number l m = grind (arith, nat_tests)

pub once_above : (most number : ℕ) → most < number → once_up_to most number ≡ 0
once_above most number l = grind (arith, nat_tests)

-- where the numbers up to one are told, each once, that is the greatest
pub greatest_is : (f : Group → Option ℕ) (most : ℕ) (logs : List (List Group))
    → ((number : ℕ) → tellers f number logs ≡ once_up_to most number) → greatest f logs ≡ most
greatest_is f most logs h =
    by_cases (nat_lt most (greatest f logs)) (greatest f logs ≡ most)
    (λ t.
    let more : most < greatest f logs = grind (arith, nat_tests) in
    absurd (omega (arith, h (greatest f logs), once_above most (greatest f logs) more, greatest_told f (greatest f logs) logs refl (omega arith))))
    (λ t.
    by_cases (nat_lt (greatest f logs) most) (greatest f logs ≡ most)
    (λ u.
    let less : greatest f logs < most = grind (arith, nat_tests) in
    absurd (omega (arith, h most, once_within most most (omega arith) (omega arith), none_above f most logs less)))
    (λ u. grind (arith, nat_tests)))

-- the readers of this

pub decides_once : (f : Group → Option ℕ) (most : ℕ) (logs : List (List Group))
    → Decides (once_ok f most logs) ((number : ℕ) → tellers f number logs ≡ once_up_to most number)
decides_once f most logs =
    let below : Decides (once_ok f most logs) ((number : ℕ) → number < suc (greatest f logs + most) → tellers f number logs ≡ once_up_to most number) =
    decides_below (λ number. tellers f number logs == once_up_to most number) (λ number. tellers f number logs ≡ once_up_to most number)
    (λ number. Decides-eqb (tellers f number logs) (once_up_to most number)) (suc (greatest f logs + most)) in (
      (λ e number.
          by_cases (nat_lt number (suc (greatest f logs + most))) (tellers f number logs ≡ once_up_to most number)
          (λ t. below.0 e number (grind (arith, nat_tests)))
          (λ t.
          let high : greatest f logs + most < number = grind (arith, nat_tests) in
          none_above f number logs (omega arith) ∙ sym (once_above most number (omega arith)))),
      (λ h. below.1 (λ number l. h number)),
    )

pub decides_single : (f : Group → Option ℕ) (logs : List (List Group)) → Decides (single_ok f logs) ((number : ℕ) → tellers f number logs ≤ 1)
decides_single f logs =
    let below : Decides (single_ok f logs) ((number : ℕ) → number < suc (greatest f logs) → tellers f number logs ≤ 1) =
    decides_below (λ number. nat_le (tellers f number logs) 1) (λ number. tellers f number logs ≤ 1)
    (λ number. ((λ t. grind (arith, nat_tests)), (λ t. grind (arith, nat_tests)))) (suc (greatest f logs)) in (
      (λ e number.
          by_cases (nat_lt number (suc (greatest f logs))) (tellers f number logs ≤ 1)
          (λ t. below.0 e number (grind (arith, nat_tests)))
          (λ t.
          let high : greatest f logs < number = grind (arith, nat_tests) in
          omega (arith, none_above f number logs high))),
      (λ h. below.1 (λ number l. h number)),
    )
