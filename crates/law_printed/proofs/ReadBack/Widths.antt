-- Lines of a record have no line feed before their end, and at most 200 bytes before it.
use Rattle.std.proofs.Common.{◌≡◌, ◌≤◌, ◌+◌, ◌*◌, ◌++◌, ◌==◌, ◌⊎◌, inl, inr, not, ℕ, zero, suc, List, [], ◌∷◌, true, length, Option, Some, None, codes, refl, arith, rules, length-append}
use Rattle.std.specs.Fmt.{decimal}
use Rattle.std.proofs.lemmas.List.Folds.{list_all-append}
use Rattle.laws.specs.words.declared.config.Config.{Config}
use Rattle.laws.specs.words.declared.config.SchemeKind.{SchemeKind}
use Rattle.laws.specs.words.declared.config.SchemeKind.TheVariants as schemes
use Rattle.laws.specs.defs.declared.lifetime.Interval.{Interval}
use Rattle.laws.specs.defs.declared.event.Guard.{Guard}
use Rattle.laws.specs.defs.declared.event.Guard.TheVariants as guards
use Rattle.laws.specs.defs.declared.event.Root.{Root}
use Rattle.laws.specs.defs.declared.event.Root.TheVariants as roots
use Rattle.laws.specs.defs.declared.call.ClockMove.{ClockMove}
use Rattle.laws.specs.defs.declared.call.Call.{Call}
use Rattle.laws.specs.defs.declared.call.Answer.{Answer}
use Rattle.laws.specs.defs.declared.event.Event.{Event}
use Rattle.laws.specs.defs.declared.event.Event.TheVariants as events
use Rattle.wfe_trace.specs.Fits.{NumberFits, GuardFits, SpanFits, ValueFits, RootFits, ClockFits, CallFits, AnswerFits, EventFits, ConfigFits}
use Rattle.wfe_trace.specs.Record.{spaced, guard_word, span_words, value_words, root_word, clock_words, call_words, answer_words, event_words, seat_word, setting_words, scheme_word}
use Rattle.wfe_trace.proofs.Decimals.{lacks, lacks-decimal}
use Rattle.wfe_trace.proofs.Digits.{twenty_digits}

-- the text has at most so many bytes, and no line feed
pub record IsNarrow (most : ℕ) (text : List ℕ) : Type 0 where
  pub width : length text ≤ most
  pub unbroken : lacks 10 text ≡ true

-- at most so many words, each of at most so many bytes
abbrev AreNarrow : (most count : ℕ) → List (List ℕ) → Type 0
AreNarrow most n [] = Unit {0}
AreNarrow most zero (w ∷ ws) = ⊥
AreNarrow most (suc n) (w ∷ ws) = IsNarrow most w × AreNarrow most n ws

-- Words.

decimal-narrow : (most : ℕ) → 20 ≤ most → (n : ℕ) → NumberFits n → IsNarrow most (decimal n)
decimal-narrow most h n fits = record { width = omega (arith, twenty_digits n fits); unbroken = lacks-decimal 10 n (omega arith) fits }

lacks-append : (b : ℕ) (v w : List ℕ) → lacks b v ≡ true → lacks b w ≡ true → lacks b (v ++ w) ≡ true
lacks-append b v w h g = rw (list_all-append (λ c. not (c == b)) v w, h, g) refl

short-append : (most m n : ℕ) (v w : List ℕ) → IsNarrow m v → IsNarrow n w → m + n ≤ most → IsNarrow most (v ++ w)
short-append most m n v w h g few = record { width = simp length-append (omega (arith, h.width, g.width, few)); unbroken = lacks-append 10 v w h.unbroken g.unbroken }

guard-narrow : (guard : Guard) → GuardFits guard → IsNarrow 42 (guard_word guard)
guard-narrow (guards.Helper seat) fits = short-append 42 1 20 (codes "h") (decimal seat) (search rules) (decimal-narrow 20 (omega arith) seat fits) (omega arith)
guard-narrow (guards.Index seat index) fits =
    short-append 42 22 20 (codes "i" ++ decimal seat ++ codes ".") (decimal index)
    (short-append 22 21 1 (codes "i" ++ decimal seat) (codes ".") (short-append 21 1 20 (codes "i") (decimal seat) (search rules) (decimal-narrow 20 (omega arith) seat fits.0) (omega arith)) (search rules) (omega arith))
    (decimal-narrow 20 (omega arith) index fits.1) (omega arith)
guard-narrow (guards.Whole seat) fits = short-append 42 1 20 (codes "v") (decimal seat) (search rules) (decimal-narrow 20 (omega arith) seat fits) (omega arith)

root-narrow : (root : Root) → RootFits root → IsNarrow 21 (root_word root)
root-narrow (roots.Bucket bucket) fits = short-append 21 1 20 (codes "b") (decimal bucket) (search rules) (decimal-narrow 20 (omega arith) bucket fits) (omega arith)
root-narrow roots.Head fits = search rules
root-narrow roots.Tail fits = search rules
root-narrow (roots.Next slot) fits = short-append 21 1 20 (codes "n") (decimal slot) (search rules) (decimal-narrow 20 (omega arith) slot fits) (omega arith)

span-narrow : (span : Option Interval) → SpanFits span → AreNarrow 42 2 (span_words span)
span-narrow span fits = search (rules, decimal-narrow 42 (omega arith))

value-narrow : (value : Option ℕ) → ValueFits value → AreNarrow 21 1 (value_words value)
value-narrow value fits = search (rules, decimal-narrow 21 (omega arith))

row-narrow : (slot : Option ℕ) → ValueFits slot → AreNarrow 42 2 (value_words slot)
row-narrow slot fits = search (rules, decimal-narrow 42 (omega arith))

clock-narrow : (clock : ClockMove) → ClockFits clock → AreNarrow 21 2 (clock_words clock)
clock-narrow clock fits = search (rules, decimal-narrow 21 (omega arith))

call-narrow : (call : Call) → CallFits call → AreNarrow 21 6 (call_words call)
call-narrow call fits = search (rules, decimal-narrow 21 (omega arith))

answer-narrow : (answer : Answer) → AnswerFits answer → AreNarrow 21 5 (answer_words answer)
answer-narrow answer fits = search (rules, decimal-narrow 21 (omega arith), value-narrow, clock-narrow)

-- a guard's word may have 42 bytes, and then there are few
event-narrow : (event : Event) → EventFits event → AreNarrow 42 4 (event_words event) ⊎ AreNarrow 21 7 (event_words event)
event-narrow (events.Reserve guard span) fits = inl (search (rules, guard-narrow, span-narrow))
event-narrow (events.Read guard span) fits = inl (search (rules, guard-narrow, span-narrow))
event-narrow (events.Hazard guard slot) fits = inl (search (rules, guard-narrow, row-narrow))
event-narrow (events.Saw guard slot) fits = inl (search (rules, guard-narrow, row-narrow))
event-narrow (events.Got bucket number key None) fits = inr (search (rules, decimal-narrow 21 (omega arith)))
event-narrow (events.Got bucket number key (Some value)) fits = inr (search (rules, decimal-narrow 21 (omega arith)))
event-narrow (events.Begin call) fits = inr (search (rules, call-narrow))
event-narrow (events.End steps answer) fits = inr (search (rules, decimal-narrow 21 (omega arith), answer-narrow))
event-narrow (events.Link root slot) fits = inr (search (rules, decimal-narrow 21 (omega arith), root-narrow))
event-narrow event fits = inr (search (rules, decimal-narrow 21 (omega arith)))

seat-narrow : (seat : Option ℕ) → ValueFits seat → IsNarrow 20 (seat_word seat)
seat-narrow None fits = search rules
seat-narrow (Some seat) fits = decimal-narrow 20 (omega arith) seat fits

scheme-narrow : (scheme : SchemeKind) → IsNarrow 3 (scheme_word scheme)
scheme-narrow schemes.He = search rules
scheme-narrow schemes.Ibr = search rules
scheme-narrow schemes.Hp = search rules
scheme-narrow schemes.Wfe = search rules

-- Words in a row.

words-width : (most n : ℕ) (ws : List (List ℕ)) → AreNarrow most n ws → length (spaced ws) ≤ (most + 1) * n
words-width most n [] are = omega arith
words-width most zero (w ∷ ws) are = absurd are
words-width most (suc n) (w ∷ ws) are = simp length-append (omega (arith, words-width most n ws are.1, are.0.width))

words-unbroken : (most n : ℕ) (ws : List (List ℕ)) → AreNarrow most n ws → lacks 10 (spaced ws) ≡ true
words-unbroken most n [] are = refl
words-unbroken most zero (w ∷ ws) are = absurd are
words-unbroken most (suc n) (w ∷ ws) are = lacks-append 10 (32 ∷ w) (spaced ws) are.0.unbroken (words-unbroken most n ws are.1)

spaced-narrow : (whole most n : ℕ) (ws : List (List ℕ)) → AreNarrow most n ws → (most + 1) * n ≤ whole → IsNarrow whole (spaced ws)
spaced-narrow whole most n ws are few = record { width = omega (arith, words-width most n ws are, few); unbroken = words-unbroken most n ws are }

event-spaced : (event : Event) → EventFits event → IsNarrow 180 (spaced (event_words event))
event-spaced event fits = elim (event-narrow event fits) [
  | inl are ↦ spaced-narrow 180 42 4 (event_words event) are (omega arith)
  | inr are ↦ spaced-narrow 180 21 7 (event_words event) are (omega arith)
]

-- Lines, without their line feed.

pub entry_narrow : (seat : ℕ) (event : Event) → NumberFits seat → EventFits event → IsNarrow 200 (decimal seat ++ spaced (event_words event))
entry_narrow seat event seat_fits fits = short-append 200 20 180 (decimal seat) (spaced (event_words event)) (decimal-narrow 20 (omega arith) seat seat_fits) (event-spaced event fits) (omega arith)

numbers-narrow : (config : Config) → ConfigFits config → AreNarrow 20 8 (decimal config.seats ∷ decimal config.indexes ∷ decimal config.slots ∷ decimal config.buckets ∷ decimal config.tries ∷ decimal config.every ∷ decimal config.last_era ∷ decimal config.last_version ∷ [])
numbers-narrow config fits =
    let number : (n : ℕ) → NumberFits n → IsNarrow 20 (decimal n) = decimal-narrow 20 (omega arith) in (
      number config.seats fits.seats,
      (number config.indexes fits.indexes, (number config.slots fits.slots, (number config.buckets fits.buckets, (number config.tries fits.tries, (number config.every fits.every, (number config.last_era fits.last_era, (number config.last_version fits.last_version, tt))))))),
    )

pub header_narrow : (version : ℕ) (config : Config) → NumberFits version → ConfigFits config → IsNarrow 200 (codes "record" ++ spaced (decimal version ∷ setting_words config))
header_narrow version config version_fits fits =
    let number : (n : ℕ) → NumberFits n → IsNarrow 20 (decimal n) = decimal-narrow 20 (omega arith) in
    let numbers : List (List ℕ) = decimal config.seats ∷ decimal config.indexes ∷ decimal config.slots ∷ decimal config.buckets ∷ decimal config.tries ∷ decimal config.every ∷ decimal config.last_era ∷ decimal config.last_version ∷ [] in
    short-append 200 6 193 (codes "record") (spaced (decimal version ∷ setting_words config)) (search rules)
    (short-append 193 21 172 (32 ∷ decimal version) (spaced (setting_words config)) (short-append 21 1 20 (32 ∷ []) (decimal version) (search rules) (number version version_fits) (omega arith))
    (short-append 172 4 168 (32 ∷ scheme_word config.scheme) (spaced numbers) (short-append 4 1 3 (32 ∷ []) (scheme_word config.scheme) (search rules) (scheme-narrow config.scheme) (omega arith))
    (spaced-narrow 168 20 8 numbers (numbers-narrow config fits) (omega arith)) (omega arith)) (omega arith)) (omega arith)

pub counts_narrow : (seat : Option ℕ) (retired back waiting : ℕ) → ValueFits seat → NumberFits retired → NumberFits back → NumberFits waiting → IsNarrow 200 (codes "table" ++ spaced (seat_word seat ∷ codes "retired" ∷ decimal retired ∷ codes "back" ∷ decimal back ∷ codes "waiting" ∷ decimal waiting ∷ []))
counts_narrow seat retired back waiting seat_fits retired_fits back_fits waiting_fits =
    let words : List (List ℕ) = seat_word seat ∷ codes "retired" ∷ decimal retired ∷ codes "back" ∷ decimal back ∷ codes "waiting" ∷ decimal waiting ∷ [] in
    short-append 200 5 147 (codes "table") (spaced words) (search rules) (spaced-narrow 147 20 7 words (search (rules, seat-narrow, decimal-narrow 20 (omega arith))) (omega arith)) (omega arith)

pub row_narrow : (place a b c : ℕ) → NumberFits place → NumberFits a → NumberFits b → NumberFits c → IsNarrow 200 (codes "watch" ++ spaced (decimal place ∷ decimal a ∷ decimal b ∷ decimal c ∷ []))
row_narrow place a b c place_fits a_fits b_fits c_fits =
    let words : List (List ℕ) = decimal place ∷ decimal a ∷ decimal b ∷ decimal c ∷ [] in
    short-append 200 5 84 (codes "watch") (spaced words) (search rules) (spaced-narrow 84 20 4 words (search (rules, decimal-narrow 20 (omega arith))) (omega arith)) (omega arith)
