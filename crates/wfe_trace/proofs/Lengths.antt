-- How long the lines of a record are.
use Rattle.std.proofs.Common.{◌≡◌, ◌≤◌, ◌*◌, ℕ, zero, suc, List, [], ◌∷◌, length, Option, None, codes, arith, rules, length-append}
use Rattle.std.specs.Fmt.{decimal}
use Rattle.std.proofs.lemmas.Bool.Decides.{nat_tests}
use Rattle.wfe_words.specs.declared.config.Config.{Config}
use Rattle.wfe_words.specs.Config.{bad_field}
use Rattle.wfe_defs.specs.declared.lifetime.Interval.{Interval}
use Rattle.wfe_defs.specs.declared.event.Guard.{Guard}
use Rattle.wfe_defs.specs.declared.event.Guard.TheVariants as guards
use Rattle.wfe_defs.specs.declared.event.Root.{Root}
use Rattle.wfe_defs.specs.declared.event.Root.TheVariants as roots
use Rattle.wfe_defs.specs.declared.call.ClockMove.{ClockMove}
use Rattle.wfe_defs.specs.declared.call.Call.{Call}
use Rattle.wfe_defs.specs.declared.call.Answer.{Answer}
use Rattle.wfe_defs.specs.declared.event.Event.{Event}
use Rattle.wfe_trace.specs.declared.reason.Reason.{Reason}
use Rattle.wfe_text.specs.Fits.{NumberFits, GuardFits, SpanFits, ValueFits, RootFits, ClockFits, CallFits, AnswerFits, EventFits, ConfigFits}
use Rattle.wfe_trace.specs.Record.{spaced, line_of, guard_word, span_words, value_words, root_word, clock_words, call_words, answer_words, event_words, event_line, seat_word, table_line, watch_line, count_line, setting_words, header_line, reason_word, bad_line}
use Rattle.wfe_text.proofs.Digits.{twenty_digits}

-- at most so many words, each of at most 50 bytes
abbrev pub Short : ℕ → List (List ℕ) → Type 0
Short n [] = Unit {0}
Short zero (w ∷ ws) = ⊥
Short (suc n) (w ∷ ws) = (length w ≤ 50) × (Short n ws)

decimal-short : (n : ℕ) → NumberFits n → length (decimal n) ≤ 50
decimal-short n fits = omega (arith, twenty_digits n fits)

guard-short : (guard : Guard) → GuardFits guard → length (guard_word guard) ≤ 50
guard-short (guards.Helper seat) fits = omega (arith, twenty_digits seat fits)
guard-short (guards.Index seat index) fits =
    simp length-append (omega (arith, twenty_digits seat fits.0, twenty_digits index fits.1))
guard-short (guards.Whole seat) fits = omega (arith, twenty_digits seat fits)

root-short : (root : Root) → RootFits root → length (root_word root) ≤ 50
root-short (roots.Bucket bucket) fits = omega (arith, twenty_digits bucket fits)
root-short roots.Head fits = omega arith
root-short roots.Tail fits = omega arith
root-short (roots.Next slot) fits = omega (arith, twenty_digits slot fits)

span-short : (span : Option Interval) → SpanFits span → Short 2 (span_words span)
span-short span fits = search (rules, decimal-short)

value-short : (value : Option ℕ) → ValueFits value → Short 1 (value_words value)
value-short value fits = search (rules, decimal-short)

clock-short : (clock : ClockMove) → ClockFits clock → Short 2 (clock_words clock)
clock-short clock fits = search (rules, decimal-short)

call-short : (call : Call) → CallFits call → Short 4 (call_words call)
call-short call fits = search (rules, decimal-short)

answer-short : (answer : Answer) → AnswerFits answer → Short 5 (answer_words answer)
answer-short answer fits = search (rules, decimal-short, value-short, clock-short)

event-short : (event : Event) → EventFits event → Short 7 (event_words event)
event-short event fits = search (rules, decimal-short, guard-short, root-short, span-short, value-short, call-short, answer-short)

setting-short : (config : Config) → ConfigFits config → Short 9 (setting_words config)
setting-short config fits = search (rules, decimal-short)

length-spaced : (n : ℕ) (ws : List (List ℕ)) → Short n ws → length (spaced ws) ≤ 51 * n
length-spaced n [] short = omega arith
length-spaced zero (w ∷ ws) short = absurd short
length-spaced (suc n) (w ∷ ws) short = simp length-append (omega (arith, length-spaced n ws short.1, short.0))

length-line_of : (n : ℕ) (first : List ℕ) (others : List (List ℕ)) → length first ≤ 50 → Short n others → n ≤ 10 → length (line_of first others) ≤ 1024
length-line_of n first others start short few = simp length-append (omega (arith, length-spaced n others short))

-- each line of a record is short
pub length-event_line : (seat : ℕ) (event : Event) → NumberFits seat → EventFits event → length (event_line seat event) ≤ 1024
length-event_line seat event seat_fits event_fits = length-line_of 7 (decimal seat) (event_words event) (decimal-short seat seat_fits) (event-short event event_fits) (omega arith)

pub length-header_line : (version : ℕ) (config : Config) → NumberFits version → ConfigFits config → length (header_line version config) ≤ 1024
length-header_line version config version_fits config_fits = length-line_of 10 (codes "record") (decimal version ∷ setting_words config) (omega arith) (decimal-short version version_fits, setting-short config config_fits) (omega arith)

seat-short : (seat : Option ℕ) → ValueFits seat → length (seat_word seat) ≤ 50
seat-short seat fits = search (rules, decimal-short)

pub length-table_line : (seat : Option ℕ) (retired back waiting : ℕ) → ValueFits seat → NumberFits retired → NumberFits back → NumberFits waiting → length (table_line seat retired back waiting) ≤ 1024
length-table_line seat retired back waiting seat_fits retired_fits back_fits waiting_fits =
    let words : List (List ℕ) = seat_word seat ∷ codes "retired" ∷ decimal retired ∷ codes "back" ∷ decimal back ∷ codes "waiting" ∷ decimal waiting ∷ [] in
    length-line_of 7 (codes "table") words (omega arith) (search (rules, seat-short, decimal-short)) (omega arith)

reason-short : (reason : Reason) → length (reason_word reason) ≤ 50
reason-short reason = search rules

pub length-bad_line : (line : ℕ) (reason : Reason) → NumberFits line → length (bad_line line reason) ≤ 1024
length-bad_line line reason fits = length-line_of 2 (codes "bad") (decimal line ∷ reason_word reason ∷ []) (omega arith) (decimal-short line fits, (reason-short reason, tt)) (omega arith)

pub length-watch_line : (place a b c : ℕ) → NumberFits place → NumberFits a → NumberFits b → NumberFits c → length (watch_line place a b c) ≤ 1024
length-watch_line place a b c place_fits a_fits b_fits c_fits =
    let words : List (List ℕ) = decimal place ∷ decimal a ∷ decimal b ∷ decimal c ∷ [] in
    length-line_of 4 (codes "watch") words (omega arith) (search (rules, decimal-short)) (omega arith)

pub length-count_line : (name : List ℕ) (number : ℕ) → length name ≤ 20 → NumberFits number → length (count_line name number) ≤ 1024
length-count_line name number name_short fits = length-line_of 1 name (decimal number ∷ []) (omega arith) (decimal-short number fits, tt) (omega arith)

-- a setting in its ranges has numbers of 64 bits
pub fits-in_range : (config : Config) → bad_field config ≡ None → ConfigFits config
fits-in_range config good = record {
  seats = grind (arith, nat_tests);
  indexes = grind (arith, nat_tests);
  slots = grind (arith, nat_tests);
  buckets = grind (arith, nat_tests);
  tries = grind (arith, nat_tests);
  every = grind (arith, nat_tests);
  last_era = grind (arith, nat_tests);
  last_version = grind (arith, nat_tests);
}
