-- How the number of a word is found digit by digit.
use Rattle.std.proofs.Common.{◌≡◌, ◌≤◌, ◌<◌, drop, get_or, length, ◌+◌, ◌-◌, ◌*◌, ◌&&◌, ℕ, List, [], ◌∷◌, Bool, true, false, refl, arith, if◌then◌else◌, Option, Some, None, fold, nat_lt}
use Rattle.std.specs.List.{list_all}
use Rattle.std.proofs.lemmas.Bool.Decides.{nat_tests}
use Rattle.std.proofs.lemmas.List.{drop_more}
use Rattle.wfe_text.specs.Words.{is_digit}

-- the number that more digits make of n
abbrev pub value_from : ℕ → List ℕ → ℕ
value_from n cs = fold (λ n c. 10 * n + (c - 48)) n cs

-- the number if it has 64 bits and the test holds
abbrev fitting : Bool → ℕ → Option ℕ
fitting test n = if test && nat_lt n 18446744073709551616 then Some n else None

-- the number, while each byte is a digit and the number has 64 bits
abbrev pub number_from : ℕ → List ℕ → Option ℕ
number_from n [] = Some n
number_from n (c ∷ cs) = if is_digit c && nat_lt (10 * n + (c - 48)) 18446744073709551616 then number_from (10 * n + (c - 48)) cs else None

value_from_above : (n : ℕ) (cs : List ℕ) → n ≤ value_from n cs
value_from_above n [] = omega arith
value_from_above n (c ∷ cs) = omega (arith, value_from_above (10 * n + (c - 48)) cs)

-- more digits keep a number above the limit
too_large : (n : ℕ) (cs : List ℕ) → nat_lt n 18446744073709551616 ≡ false → nat_lt (value_from n cs) 18446744073709551616 ≡ false
too_large n cs over = grind (arith, nat_tests, value_from_above n cs)

none_over : (test : Bool) (n : ℕ) → nat_lt n 18446744073709551616 ≡ false → None ≡ fitting test n
none_over true n over = rw over refl
none_over false n over = refl

-- one more number on the way
step : (n : ℕ) (cs : List ℕ) → (nat_lt n 18446744073709551616 ≡ true → number_from n cs ≡ fitting (list_all is_digit cs) (value_from n cs)) → (fits : Bool) → nat_lt n 18446744073709551616 ≡ fits → (if fits then number_from n cs else None) ≡ fitting (list_all is_digit cs) (value_from n cs)
step n cs later true fits = later fits
step n cs later false over = none_over (list_all is_digit cs) (value_from n cs) (too_large n cs over)

digit_step : (digit : Bool) (n : ℕ) (cs : List ℕ) → (nat_lt n 18446744073709551616 ≡ true → number_from n cs ≡ fitting (list_all is_digit cs) (value_from n cs)) → (if digit && nat_lt n 18446744073709551616 then number_from n cs else None) ≡ fitting (digit && list_all is_digit cs) (value_from n cs)
digit_step true n cs later = step n cs later (nat_lt n 18446744073709551616) refl
digit_step false n cs later = refl

-- what is found digit by digit is the number that all digits write
pub number_from-digits : (n : ℕ) (cs : List ℕ) → nat_lt n 18446744073709551616 ≡ true → number_from n cs ≡ fitting (list_all is_digit cs) (value_from n cs)
number_from-digits n [] fits = rw fits refl
number_from-digits n (c ∷ cs) fits = digit_step (is_digit c) (10 * n + (c - 48)) cs (number_from-digits (10 * n + (c - 48)) cs)

-- a digit more, where the number has 64 bits with it
pub number_more : (n i : ℕ) (word : List ℕ) → i < length word → is_digit (get_or word i 0) ≡ true → nat_lt (10 * n + (get_or word i 0 - 48)) 18446744073709551616 ≡ true
    → number_from (10 * n + (get_or word i 0 - 48)) (drop (i + 1) word) ≡ number_from n (drop i word)
number_more n i word within digit fits = rw (drop_more word i 0 within, digit, fits) refl
