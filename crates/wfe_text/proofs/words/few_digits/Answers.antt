use Rattle.std.proofs.Common.{get_or, length, nat_lt, true, ◌*◌, ◌+◌, ◌-◌, ◌<◌, ◌^◌, ◌∙◌, ◌≡◌, ◌≤◌, ℕ, ap, arith, pow-suc, refl, rules, suc}
use Rattle.std.proofs.Math.Nat.{pow-le-pow_right}
use Rattle.std.proofs.lemmas.Bool.Decides.{nat_tests}
use Rattle.wfe_text.specs.Words.{is_digit}
use Rattle.wfe_text.proofs.Numerals.{number_from-digits, number_more}
use Rattle.wfe_text.proofs.words.few_digits.Goals as goal

pub loop-byte-init : goal.loop-byte-init
loop-byte-init c = (number_from-digits 0 c.args.word.now refl, omega arith)

pub overflow_mul-number : goal.overflow_mul-number
overflow_mul-number c =
    let cap : 10 ^ c.loop-byte.byte-index ≤ 10 ^ 18 = pow-le-pow_right (omega arith) (let h : c.loop-byte.byte-index ≤ 18 = omega arith in h) in search rules

pub overflow_add-number : goal.overflow_add-number
overflow_add-number c =
    let cap : 10 ^ c.loop-byte.byte-index ≤ 10 ^ 18 = pow-le-pow_right (omega arith) (let h : c.loop-byte.byte-index ≤ 18 = omega arith in h) in search rules

pub loop-byte-preserved : goal.loop-byte-preserved
loop-byte-preserved c =
    let i = c.loop-byte.byte-index in
    let n = c.loop-byte.number in
    let within : i < length c.args.word.now = omega arith in
    let cap : 10 ^ i ≤ 10 ^ 18 = pow-le-pow_right (omega arith) (let h : i ≤ 18 = omega arith in h) in
    let digit : is_digit (get_or c.args.word.now i 0) ≡ true = grind (arith, nat_tests, c.if-not-is_ascii_digit.ensures.cases) in
    let small : get_or c.args.word.now i 0 - 48 < 10 = grind (arith, nat_tests, c.if-not-is_ascii_digit.ensures.cases) in
    let fits : nat_lt (10 * n + (get_or c.args.word.now i 0 - 48)) 18446744073709551616 ≡ true = grind (arith, nat_tests, cap, small, c.loop-byte.invariant.1) in
    let on : i + 1 ≡ suc i = omega arith in
    let wider : 10 ^ (i + 1) ≡ 10 ^ i * 10 = ap (λ (k : ℕ). 10 ^ k) on ∙ pow-suc 10 i in
    (number_more n i c.args.word.now within digit fits ∙ c.loop-byte.invariant.0, omega (arith, wider, small, c.loop-byte.invariant.1))
