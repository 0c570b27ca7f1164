-- The decimal text of a number is read back as that number, and has digits alone.
use Rattle.std.proofs.Common.{◌≡◌, ◌<◌, ◌^◌, ◌==◌, not, ℕ, zero, suc, List, [], ◌∷◌, Bool, true, length, get_or, refl, arith, rules, Some, nat_lt}
use Rattle.std.specs.Fmt.{decimal}
use Rattle.std.specs.List.{list_all}
use Rattle.std.proofs.lemmas.Bool.Decides.{nat_tests}
use Rattle.std.proofs.lemmas.Fmt.{digits_decimal, digits_value-decimal, first_decimal, decimal_nonempty, decimal_digit}
use Rattle.std.proofs.lemmas.Str.Parse.{IsNumeralModel, numerals_by_fold}
use Rattle.wfe_text.specs.Words.{is_digit, value_of, is_shortest, number_in}
use Rattle.wfe_text.proofs.Numerals.{value_from}

model : IsNumeralModel (λ ds. list_all is_digit ds ≡ true) (value_from 0)
model = numerals_by_fold _ (search rules) value_from (search rules)

pub decimal_digits : (n : ℕ) → n < 2 ^ 64 → list_all is_digit (decimal n) ≡ true
decimal_digits n fits = digits_decimal model n fits

pub value_of-decimal : (n : ℕ) → n < 2 ^ 64 → value_of (decimal n) ≡ n
value_of-decimal n fits = digits_value-decimal model n fits

shortest : (w : List ℕ) → 0 < length w → 48 < get_or w 0 0 → is_shortest w ≡ true
shortest [] some above = absurd (omega arith)
shortest (c ∷ []) some above = refl
shortest (c ∷ d ∷ ds) some above = grind (arith, nat_tests)

pub shortest_decimal : (n : ℕ) → n < 2 ^ 64 → is_shortest (decimal n) ≡ true
shortest_decimal zero fits = rw (decimal_digit 0 (omega arith)) refl
shortest_decimal (suc n) fits = shortest (decimal (suc n)) (decimal_nonempty (suc n) fits) (first_decimal (suc n) (omega arith) fits)

-- a number is read back from its decimal text
pub number_in-decimal : (n : ℕ) → n < 2 ^ 64 → number_in (decimal n) ≡ Some n
number_in-decimal n fits =
    let small : nat_lt n 18446744073709551616 ≡ true = grind (arith, nat_tests) in
    rw (shortest_decimal n fits, decimal_digits n fits, value_of-decimal n fits, small) refl

-- no byte of the text is this one
abbrev pub lacks : ℕ → List ℕ → Bool
lacks b w = list_all (λ c. not (c == b)) w

other_byte : (b c : ℕ) → b < 48 → is_digit c ≡ true → not (c == b) ≡ true
other_byte b c below digit = grind (arith, nat_tests)

digits_lack : (b : ℕ) → b < 48 → (w : List ℕ) → list_all is_digit w ≡ true → lacks b w ≡ true
digits_lack b below [] digits = refl
digits_lack b below (c ∷ w) digits = grind (arith, nat_tests, other_byte b c below, digits_lack b below w)

pub lacks-decimal : (b n : ℕ) → b < 48 → n < 2 ^ 64 → lacks b (decimal n) ≡ true
lacks-decimal b n below fits = digits_lack b below (decimal n) (decimal_digits n fits)
