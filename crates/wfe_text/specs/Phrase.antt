-- A word and the numbers after it, with which the words of a call, an answer or an event begin, and what follows them.
use Rattle.std.specs.Prelude.{ℕ, List, [], ◌∷◌}
use Rattle.std.specs.Fmt.{decimal}
use Rattle.wfe_defs.specs.declared.call.Answer.{Answer}
use Rattle.wfe_defs.specs.declared.call.Answer.TheVariants as answers
use Rattle.wfe_defs.specs.declared.event.Event.{Event}
use Rattle.wfe_defs.specs.declared.event.Event.TheVariants as events
use Rattle.wfe_text.specs.declared.phrase.Phrase.{Phrase}
use Rattle.wfe_text.specs.declared.phrase.Phrase.TheVariants as phrases
use Rattle.wfe_text.specs.Record.{guard_word, span_words, value_words, root_word, clock_words, call_words, answer_words}

abbrev pub phrase_words : Phrase → List (List ℕ)
phrase_words (phrases.Word name) = name.now ∷ []
phrase_words (phrases.One name a) = name.now ∷ decimal a ∷ []
phrase_words (phrases.Two name a b) = name.now ∷ decimal a ∷ decimal b ∷ []
phrase_words (phrases.Three name a b c) = name.now ∷ decimal a ∷ decimal b ∷ decimal c ∷ []
phrase_words (phrases.Four name a b c d) = name.now ∷ decimal a ∷ decimal b ∷ decimal c ∷ decimal d ∷ []

abbrev pub first_word : List (List ℕ) → List ℕ
first_word [] = []
first_word (w ∷ ws) = w

-- what an answer tells after its phrase: a key's value, or a move of the clock
abbrev pub answer_tail : Answer → List (List ℕ)
answer_tail (answers.Got version value) = value_words value
answer_tail (answers.Done version clock) = clock_words clock
answer_tail (answers.Taken number value clock) = clock_words clock
answer_tail (answers.Looked slot version value) = value_words value
answer_tail _ = []

-- what an event tells after its phrase
abbrev pub event_tail : Event → List (List ℕ)
event_tail (events.Begin call) = call_words call
event_tail (events.End steps answer) = answer_words answer
event_tail (events.Reserve guard span) = guard_word guard ∷ span_words span
event_tail (events.Read guard span) = guard_word guard ∷ span_words span
event_tail (events.Hazard guard slot) = guard_word guard ∷ value_words slot
event_tail (events.Saw guard slot) = guard_word guard ∷ value_words slot
event_tail (events.Link root slot) = root_word root ∷ decimal slot ∷ []
event_tail (events.Got bucket version key value) = value_words value
event_tail _ = []
