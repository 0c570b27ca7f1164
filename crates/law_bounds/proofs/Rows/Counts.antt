-- How many numbers of a range pass a test: as many as there are rows, where these are the ones that pass and are apart.
use Rattle.std.proofs.Common.{ℕ, zero, suc, ◌≡◌, ◌≤◌, ◌<◌, ◌+◌, Bool, true, false, List, [], ◌∷◌, length, refl, ap, ◌∙◌, arith}
use Rattle.std.proofs.lemmas.Bool.Decides.{nat_tests}
use Rattle.std.proofs.lemmas.List.Sums.{length-filter, sum_by-cons}
use Rattle.std.specs.List.{range_with_len}
use Rattle.std.specs.Prelude.{◌==◌, ◌||◌, not, count_by, filter, if◌then◌else◌}
use Rattle.law_all.proofs.Runs.Numbers.{one_counts}
use Rattle.law_all.proofs.inv.model.Facts.{false_by, false_of_not, first_of, number_is, or_more, rest_of, same_or}
use Rattle.law_all.specs.laws.StateAt.{is_one_of, one}
use Rattle.law_bounds.specs.Rows.{are_apart}

-- how many of so many numbers pass, from the first on
abbrev pub counted : (ℕ → Bool) → (from n : ℕ) → ℕ
counted test from zero = 0
counted test from (suc n) = one (test from) + counted test (from + 1) n

counts : (test : ℕ → Bool) (from n : ℕ) → count_by test (range_with_len from n) ≡ counted test from n
counts test from zero = refl
counts test from (suc n) =
    let more : count_by test (range_with_len (from + 1) n) ≡ counted test (from + 1) n = counts test (from + 1) n in
    let here : (if test from then 1 else 0) ≡ one (test from) = one_counts (test from) in
    sum_by-cons (λ (x : ℕ). if test x then 1 else 0) from (range_with_len (from + 1) n) ∙ omega (arith, more, here)

pub filtered : (test : ℕ → Bool) (from n : ℕ) → length (filter test (range_with_len from n)) ≡ counted test from n
filtered test from n = length-filter test (range_with_len from n) ∙ counts test from n

pub counted_same : (f g : ℕ → Bool) (from n : ℕ) → ((s : ℕ) → f s ≡ g s) → counted f from n ≡ counted g from n
counted_same f g from zero h = refl
counted_same f g from (suc n) h =
    let here : one (f from) ≡ one (g from) = ap one (h from) in
    let more = counted_same f g (from + 1) n h in
    omega (arith, here, more)

pub counted_both : (f g h : ℕ → Bool) (from n : ℕ) → ((s : ℕ) → one (f s) ≡ one (g s) + one (h s)) → counted f from n ≡ counted g from n + counted h from n
counted_both f g h from zero e = refl
counted_both f g h from (suc n) e =
    let here = e from in
    let more = counted_both f g h (from + 1) n e in
    omega (arith, here, more)

counted_none : (from n : ℕ) → counted (λ s. false) from n ≡ 0
counted_none from zero = refl
counted_none from (suc n) = let more = counted_none (from + 1) n in omega (arith, more)

pub counted_never : (f : ℕ → Bool) (from n : ℕ) → ((s : ℕ) → f s ≡ false) → counted f from n ≡ 0
counted_never f from n h = counted_same f (λ s. false) from n h ∙ counted_none from n

-- of a test that one number passes at most
passed_by : (f : ℕ → Bool) (from n r : ℕ) → ((s : ℕ) → f s ≡ true → s ≡ r) → r < from → counted f from n ≡ 0
passed_by f from zero r h low = refl
passed_by f from (suc n) r h low =
    let none : f from ≡ false = false_by (f from) (λ e. let same : from ≡ r = h from e in omega (arith, same, low)) in
    let here : one (f from) ≡ 0 = ap one none in
    let more = passed_by f (from + 1) n r h (omega (arith, low)) in
    omega (arith, here, more)

pub counted_once : (f : ℕ → Bool) (from n : ℕ) → ((s t : ℕ) → f s ≡ true → f t ≡ true → s ≡ t) → counted f from n ≤ 1
counted_once f from zero h = omega arith
counted_once f from (suc n) h = by (f from) refl (counted_once f (from + 1) n h)
  where
    by : (here : Bool) → f from ≡ here → counted f (from + 1) n ≤ 1 → one (f from) + counted f (from + 1) n ≤ 1
    by true e more =
        let one_here : one (f from) ≡ 1 = ap one e in
        let none : counted f (from + 1) n ≡ 0 = passed_by f (from + 1) n from (λ s t. h s from t e) (omega arith) in
        omega (arith, one_here, none)
    by false e more = let none : one (f from) ≡ 0 = ap one e in omega (arith, none, more)

-- fewer than all pass, so one does not
pub record Missing (f : ℕ → Bool) (from n : ℕ) : Type 0 where
  pub number : ℕ
  pub low : from ≤ number
  pub high : number < from + n
  pub fails : f number ≡ false

pub missing : (f : ℕ → Bool) (from n : ℕ) → counted f from n < n → Missing f from n
missing f from zero h = absurd (omega (arith, h))
missing f from (suc n) h = by (f from) refl (missing f (from + 1) n)
  where
    by : (here : Bool) → f from ≡ here → (counted f (from + 1) n < n → Missing f (from + 1) n) → Missing f from (suc n)
    by true e g =
        let one_here : one (f from) ≡ 1 = ap one e in
        let x = g (omega (arith, one_here, h)) in
        let low = x.low in
        let high = x.high in
        record { number = x.number; low = omega (arith, low); high = omega (arith, high); fails = x.fails }
    by false e g = record { number = from; low = omega arith; high = omega arith; fails = e }

differs : (from r : ℕ) → r < from → (from == r) ≡ false
differs from r h = grind (arith, nat_tests)

later : (from r : ℕ) → from ≤ r → (from == r) ≡ false → from + 1 ≤ r
later from r h e = grind (arith, nat_tests)

counted_past : (r from n : ℕ) → r < from → counted (λ s. s == r) from n ≡ 0
counted_past r from zero h = refl
counted_past r from (suc n) h =
    let here : one (from == r) ≡ 0 = ap one (differs from r h) in
    let more = counted_past r (from + 1) n (omega arith) in
    omega (arith, here, more)

counted_one : (r from n : ℕ) → from ≤ r → r < from + n → counted (λ s. s == r) from n ≡ 1
counted_one r from zero low high = absurd (omega arith)
counted_one r from (suc n) low high = by (from == r) refl (λ next. counted_one r (from + 1) n next (omega arith))
  where
    by : (same : Bool) → (from == r) ≡ same → (from + 1 ≤ r → counted (λ s. s == r) (from + 1) n ≡ 1) → one (from == r) + counted (λ s. s == r) (from + 1) n ≡ 1
    by true e f =
        let here : one (from == r) ≡ 1 = ap one e in
        let same : from ≡ r = number_is from r e in
        let more = counted_past r (from + 1) n (omega arith) in
        omega (arith, here, more)
    by false e f =
        let here : one (from == r) ≡ 0 = ap one e in
        let more = f (later from r low e) in
        omega (arith, here, more)

split_one : (s r : ℕ) (rows : List ℕ) (same : Bool) → (s == r) ≡ same → is_one_of r rows ≡ false → one (same || is_one_of s rows) ≡ one same + one (is_one_of s rows)
split_one s r rows true e h =
    let here : is_one_of s rows ≡ false = ap (λ (x : ℕ). is_one_of x rows) (number_is s r e) ∙ h in
    let none : one (is_one_of s rows) ≡ 0 = ap one here in
    omega (arith, none)
split_one s r rows false e h = omega arith

pub counted_rows : (rows : List ℕ) (from n : ℕ) → are_apart rows ≡ true → ((s : ℕ) → is_one_of s rows ≡ true → (from ≤ s) × (s < from + n)) → counted (λ s. is_one_of s rows) from n ≡ length rows
counted_rows [] from n a h = counted_none from n
counted_rows (r ∷ rows) from n a h =
    let new : is_one_of r rows ≡ false = false_of_not (is_one_of r rows) (first_of (not (is_one_of r rows)) (are_apart rows) a) in
    let here = h r (same_or r (is_one_of r rows)) in
    let one_more : counted (λ s. s == r) from n ≡ 1 = counted_one r from n here.0 here.1 in
    let others : counted (λ s. is_one_of s rows) from n ≡ length rows =
    counted_rows rows from n (rest_of (not (is_one_of r rows)) (are_apart rows) a) (λ s e. h s (or_more (s == r) (is_one_of s rows) e)) in
    let split : counted (λ s. is_one_of s (r ∷ rows)) from n ≡ counted (λ s. s == r) from n + counted (λ s. is_one_of s rows) from n =
    counted_both (λ s. is_one_of s (r ∷ rows)) (λ s. s == r) (λ s. is_one_of s rows) from n (λ s. split_one s r rows (s == r) refl new) in
    omega (arith, one_more, others, split)
