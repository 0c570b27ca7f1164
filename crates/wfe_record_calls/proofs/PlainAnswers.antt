-- The words of answers have no space in them.
use Rattle.std.proofs.Common.{ℕ, rules}
use Rattle.wfe_words.specs.declared.config.Config.{Config}
use Rattle.wfe_defs.specs.declared.call.Answer.{Answer}
use Rattle.wfe_defs.specs.declared.call.ClockMove.{ClockMove}
use Rattle.wfe_trace.specs.Record.{clock_words, answer_words}
use Rattle.wfe_trace.proofs.EventWords.{Plain}
use Rattle.wfe_record_words.specs.Within.{Small}
use Rattle.wfe_record_words.proofs.Plain.{long_plain, short_plain, slot_plain, value-plain}
use Rattle.wfe_record_calls.specs.Answers.{IsClock, IsAnswer}

clock-plain : (clock : ClockMove) → IsClock clock → Plain (clock_words clock)
clock-plain clock is = search (rules, short_plain)

pub answer-plain : (version : ℕ) (config : Config) → Small config → (answer : Answer) → IsAnswer version config answer → Plain (answer_words answer)
answer-plain version config small answer is = search (rules, long_plain, short_plain, slot_plain config small, value-plain, clock-plain)
