-- The phrases that words begin with.
use Rattle.std.proofs.Common.{◌≡◌, ◌≤◌, ◌++◌, ℕ, List, length, refl, rules}
use Rattle.wfe_defs.specs.declared.call.ClockMove.{ClockMove}
use Rattle.wfe_defs.specs.declared.call.Call.{Call}
use Rattle.wfe_defs.specs.declared.call.Answer.{Answer}
use Rattle.wfe_defs.specs.declared.event.Event.{Event}
use Rattle.wfe_text.specs.declared.phrase.Phrase.{Phrase}
use Rattle.wfe_text.specs.declared.phrase.Phrase.TheVariants as phrases
use Rattle.wfe_text.specs.Record.{clock_words, call_words, answer_words, event_words}
use Rattle.wfe_text.specs.Phrase.{phrase_words, first_word}

-- what follows a phrase leaves its first word
pub first_word-append : (phrase : Phrase) (ws : List (List ℕ)) → first_word (phrase_words phrase ++ ws) ≡ first_word (phrase_words phrase)
first_word-append (phrases.Word name) ws = refl
first_word-append (phrases.One name a) ws = refl
first_word-append (phrases.Two name a b) ws = refl
first_word-append (phrases.Three name a b c) ws = refl
first_word-append (phrases.Four name a b c d) ws = refl

-- the first words are short
pub short_clock : (clock : ClockMove) → length (first_word (clock_words clock)) ≤ 20
short_clock clock = search rules

pub short_call : (call : Call) → length (first_word (call_words call)) ≤ 20
short_call call = search rules

pub short_answer : (answer : Answer) → length (first_word (answer_words answer)) ≤ 20
short_answer answer = search (rules, short_clock)

pub short_event : (event : Event) → length (first_word (event_words event)) ≤ 20
short_event event = search rules
