-- The words of a line, the numbers among them, and how what they say is judged.
use Rattle.std.specs.Prelude.{if◌then◌else◌, Bool, ℕ, Option, Some, None, Result, Ok, Err}
pub use Rattle.wfe_text.specs.Words.{onto_first, words, words_after, Shows, is_digit, value_of, digits_in, is_shortest, number_in}
use Rattle.wfe_trace.specs.declared.reason.Reason.{Reason}
use Rattle.wfe_trace.specs.declared.reason.Reason.TheVariants as reasons

-- what comes next is judged where this is not bad
infixl 10 ◌>>=◌
abbrev pub ◌>>=◌ : {A B : Type 0} → Result A Reason → (A → Result B Reason) → Result B Reason
(Ok x) >>= f = f x
(Err e) >>= f = Err e

-- bad by the reason, unless the test holds
abbrev pub need : Bool → Reason → Result (Unit {0}) Reason
need holds reason = if holds then Ok tt else Err reason

abbrev pub or_number : Option ℕ → Result ℕ Reason
or_number None = Err reasons.Number
or_number (Some n) = Ok n
