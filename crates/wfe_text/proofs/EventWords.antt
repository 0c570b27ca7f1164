-- The words of an event have no space in them.
use Rattle.std.proofs.Common.{◌≡◌, ◌<◌, ◌^◌, ◌==◌, ◌++◌, ◌&&◌, not, ℕ, List, [], ◌∷◌, Bool, true, false, Option, codes, refl, arith, rules, ap, sym, ◌∙◌}
use Rattle.std.specs.Fmt.{decimal}
use Rattle.std.proofs.lemmas.List.Folds.{list_all-append}
use Rattle.std.proofs.lemmas.List.{append_cancel_right}
use Rattle.wfe_defs.specs.declared.lifetime.Interval.{Interval}
use Rattle.wfe_defs.specs.declared.event.Guard.{Guard}
use Rattle.wfe_defs.specs.declared.event.Guard.TheVariants as guards
use Rattle.wfe_defs.specs.declared.event.Root.{Root}
use Rattle.wfe_defs.specs.declared.call.ClockMove.{ClockMove}
use Rattle.wfe_defs.specs.declared.call.Call.{Call}
use Rattle.wfe_defs.specs.declared.call.Answer.{Answer}
use Rattle.wfe_defs.specs.declared.event.Event.{Event}
use Rattle.wfe_text.specs.Fits.{GuardFits, SpanFits, ValueFits, RootFits, ClockFits, CallFits, AnswerFits, EventFits}
use Rattle.wfe_text.specs.Words.{words}
use Rattle.wfe_text.specs.Record.{spaced, line_of, guard_word, span_words, value_words, root_word, clock_words, call_words, answer_words, event_words}
use Rattle.wfe_text.proofs.Decimals.{lacks, lacks-decimal}

-- no word has a space
abbrev pub Plain : List (List ℕ) → Type 0
Plain [] = Unit {0}
Plain (w ∷ ws) = (lacks 32 w ≡ true) × (Plain ws)

decimal-plain : (n : ℕ) → n < 2 ^ 64 → lacks 32 (decimal n) ≡ true
decimal-plain n fits = lacks-decimal 32 n (omega arith) fits

guard-plain : (guard : Guard) → GuardFits guard → lacks 32 (guard_word guard) ≡ true
guard-plain (guards.Helper seat) fits = decimal-plain seat fits
guard-plain (guards.Index seat index) fits =
    rw (list_all-append (λ c. not (c == 32)) (decimal seat ++ codes ".") (decimal index), list_all-append (λ c. not (c == 32)) (decimal seat) (codes "."), decimal-plain seat fits.0, decimal-plain index fits.1) refl
guard-plain (guards.Whole seat) fits = decimal-plain seat fits

root-plain : (root : Root) → RootFits root → lacks 32 (root_word root) ≡ true
root-plain root fits = search (rules, decimal-plain)

span-plain : (span : Option Interval) → SpanFits span → Plain (span_words span)
span-plain span fits = search (rules, decimal-plain)

value-plain : (value : Option ℕ) → ValueFits value → Plain (value_words value)
value-plain value fits = search (rules, decimal-plain)

clock-plain : (clock : ClockMove) → ClockFits clock → Plain (clock_words clock)
clock-plain clock fits = search (rules, decimal-plain)

call-plain : (call : Call) → CallFits call → Plain (call_words call)
call-plain call fits = search (rules, decimal-plain)

answer-plain : (answer : Answer) → AnswerFits answer → Plain (answer_words answer)
answer-plain answer fits = search (rules, decimal-plain, value-plain, clock-plain)

pub event-plain : (event : Event) → EventFits event → Plain (event_words event)
event-plain event fits = search (rules, decimal-plain, guard-plain, root-plain, span-plain, value-plain, call-plain, answer-plain)

both : (t u : Bool) → (not t && u) ≡ true → (t ≡ false) × (u ≡ true)
both true u h = cc
both false u h = (refl, h)

words_onto : (w r : List ℕ) (ws : List (List ℕ)) → lacks 32 w ≡ true → words r ≡ [] ∷ ws → words (w ++ r) ≡ w ∷ ws
words_onto [] r ws none rest = rest
words_onto (b ∷ w) r ws none rest =
    let parts : ((b == 32) ≡ false) × (lacks 32 w ≡ true) = both (b == 32) (lacks 32 w) none in
    rw (parts.0, words_onto w r ws parts.1 rest) refl

-- words without spaces are found again in their text
words-spaced : (w : List ℕ) (ws : List (List ℕ)) → lacks 32 w ≡ true → Plain ws → words (w ++ spaced ws) ≡ w ∷ ws
words-spaced w [] first others = words_onto w [] [] first refl
words-spaced w (v ∷ vs) first others = words_onto w (spaced (v ∷ vs)) (v ∷ vs) first (ap (λ ws. [] ∷ ws) (words-spaced v vs others.0 others.1))

-- lines of words without spaces are the same only where their words are
pub line_of-injective : (v w : List ℕ) (vs ws : List (List ℕ)) → lacks 32 v ≡ true → lacks 32 w ≡ true → Plain vs → Plain ws → line_of v vs ≡ line_of w ws → (v ≡ w) × (vs ≡ ws)
line_of-injective v w vs ws v_plain w_plain vs_plain ws_plain same =
    let text : v ++ spaced vs ≡ w ++ spaced ws = append_cancel_right (v ++ spaced vs) (w ++ spaced ws) (codes "\n") same in
    let found : v ∷ vs ≡ w ∷ ws = sym (words-spaced v vs v_plain vs_plain) ∙ ap words text ∙ words-spaced w ws w_plain ws_plain in
    (cc, cc)
