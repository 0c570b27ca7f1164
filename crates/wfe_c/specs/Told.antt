-- What C is told of an answer.
use Rattle.std.specs.Prelude.{None, Some, ℕ}
use Rattle.wfe_table.specs.history.defs.declared.call.Answer.{Answer}
use Rattle.wfe_table.specs.history.defs.declared.call.Answer.TheVariants as answers
use Rattle.wfe_table.specs.history.defs.declared.call.ClockMove.{ClockMove}
use Rattle.wfe_table.specs.history.defs.declared.call.ClockMove.TheVariants as moves
use Rattle.wfe_table_end.specs.declared.answers.Taken.{Taken}
use Rattle.wfe_c.specs.declared.answer.CAnswer.{CAnswer}
use Rattle.wfe_c.specs.declared.answer.CCoded.{CCoded}
use Rattle.wfe_c.specs.declared.answer.CTaken.{CTaken}

-- a code alone; and with a version or a number
abbrev pub says : ℕ → CAnswer
says code = record { code = code; clock = 0; era = 0; slot = 0; number = 0; value = 0 }

abbrev pub says_at : ℕ → ℕ → CAnswer
says_at code number = record (says code) { number = number }

-- of a get, its code with the value, and the version
abbrev pub answer_of : CCoded → ℕ → CAnswer
answer_of told number = record { code = told.code; clock = 0; era = 0; slot = 0; number = number; value = told.word }

-- of an enqueue, its code with the number
abbrev pub answer_at : CCoded → CAnswer
answer_at told = says_at told.code told.word

-- and of a dequeue
abbrev pub answer_with : ℕ → CTaken → CAnswer
answer_with code taken = record { code = code; clock = taken.clock; era = taken.era; slot = 0; number = taken.number; value = taken.value }

abbrev pub nothing_taken : CTaken
nothing_taken = record { number = 0; value = 0; clock = 0; era = 0 }

abbrev pub clock_kind : ClockMove → ℕ
clock_kind moves.Still = 0
clock_kind (moves.Moved era) = 1
clock_kind (moves.Other seen) = 2
clock_kind (moves.EraSpent era) = 3

abbrev pub clock_era : ClockMove → ℕ
clock_era moves.Still = 0
clock_era (moves.Moved era) = era
clock_era (moves.Other seen) = seen
clock_era (moves.EraSpent era) = era

abbrev pub taken_told : Taken → CTaken
taken_told taken = record { number = taken.number; value = taken.value; clock = clock_kind taken.clock; era = clock_era taken.clock }

abbrev pub told_of : Answer → CAnswer
told_of (answers.Got version (Some value)) = record (says_at 0 version) { value = value }
told_of (answers.Got version None) = says_at 9 version
told_of (answers.Done version clock) = record (says_at 0 version) { clock = clock_kind clock; era = clock_era clock }
told_of (answers.Absent version) = says_at 9 version
told_of answers.Full = says 5
told_of (answers.BucketFull version) = says_at 6 version
told_of (answers.Spent number) = says_at 7 number
told_of (answers.Queued number) = says_at 0 number
told_of (answers.Taken number value clock) = record (says_at 0 number) { value = value; clock = clock_kind clock; era = clock_era clock }
told_of answers.Empty = says 10
told_of (answers.Holding slot) = record (says 0) { slot = slot }
told_of answers.Nothing = says 11
told_of answers.Released = says 0
told_of (answers.Clock outcome) = record (says 0) { clock = clock_kind outcome; era = clock_era outcome }
told_of (answers.Scanned kept back) = record (says_at 0 kept) { value = back }
told_of (answers.Copied slot) = record (says 0) { slot = slot }
told_of answers.Dropped = says 0
told_of (answers.Looked slot version (Some value)) = record (says_at 0 version) { slot = slot; value = value }
told_of (answers.Looked slot version None) = record (says_at 9 version) { slot = slot }
told_of (answers.Stale version) = says_at 8 version
told_of (answers.Left count) = says_at 0 count
told_of (answers.Adopted count) = says_at 0 count
told_of answers.NotLeft = says 12
told_of answers.AdoptedBefore = says 13
