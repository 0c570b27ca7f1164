-- How a number's digits are written.
use Rattle.std.proofs.Common.{◌≡◌, ◌≤◌, ◌<◌, ◌+◌, ◌/◌, ◌%◌, ◌^◌, ◌∷◌, [], ℕ, ◌∙◌, ap, refl, length, length-append, arith}
use Rattle.std.specs.Fmt.{decimal}
use Rattle.std.proofs.lemmas.Fmt.{decimal_step, decimal_digit, length-decimal-le}
use Rattle.std.proofs.lemmas.Grind.{common_steps}

-- a number of 64 bits has at most twenty digits
pub twenty_digits : (n : ℕ) → n < 2 ^ 64 → length (decimal n) ≤ 20
twenty_digits n fits = length-decimal-le 20 n (omega arith) (omega arith) fits

pub ruleset digit_counts = (twenty_digits, common_steps)

-- the text of a number has one digit more than that of its tenth
pub length_step : (n : ℕ) → 10 ≤ n → n < 2 ^ 64 → length (decimal n) ≡ length (decimal (n / 10)) + 1
length_step n more fits = ap length (decimal_step n more fits) ∙ length-append (decimal (n / 10)) ((48 + n % 10) ∷ [])

pub two_digits : (n : ℕ) → 10 ≤ n → n < 100 → decimal n ≡ (48 + n / 10) ∷ (48 + n % 10) ∷ []
two_digits n more less = rw (decimal_step n more (omega arith), decimal_digit (n / 10) (omega arith)) refl

-- how numbers of one digit and of two are written, and how long others are
pub ruleset digit_steps = (decimal_digit, two_digits, twenty_digits, common_steps)

-- how a number is written whose tenth is
pub ruleset tenth_steps = (decimal_step, length_step, common_steps)
