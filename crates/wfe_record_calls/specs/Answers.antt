-- Answers with each number in its range in a record of the setting.
use Rattle.std.specs.Prelude.{ℕ}
use Rattle.wfe_words.specs.declared.config.Config.{Config}
use Rattle.wfe_defs.specs.declared.call.ClockMove.{ClockMove}
use Rattle.wfe_defs.specs.declared.call.ClockMove.TheVariants as clocks
use Rattle.wfe_defs.specs.declared.call.Answer.{Answer}
use Rattle.wfe_defs.specs.declared.call.Answer.TheVariants as answers
use Rattle.wfe_trace.specs.Fits.{NumberFits, ValueFits}
use Rattle.wfe_record_words.specs.Within.{IsShort, IsSlot, Since}

abbrev pub IsClock : ClockMove → Type 0
IsClock clocks.Still = Unit {0}
IsClock (clocks.Moved era) = IsShort era
IsClock (clocks.Other seen) = IsShort seen
IsClock (clocks.EraSpent era) = IsShort era

-- an answer that records of the version have
abbrev pub IsAnswer : ℕ → Config → Answer → Type 0
IsAnswer version config (answers.Got number value) = NumberFits number × ValueFits value
IsAnswer version config (answers.Done number clock) = NumberFits number × IsClock clock
IsAnswer version config (answers.Absent number) = NumberFits number
IsAnswer version config answers.Full = Unit {0}
IsAnswer version config (answers.BucketFull number) = NumberFits number
IsAnswer version config (answers.Spent number) = NumberFits number
IsAnswer version config (answers.Queued number) = NumberFits number
IsAnswer version config (answers.Taken number value clock) = NumberFits number × NumberFits value × IsClock clock
IsAnswer version config answers.Empty = Unit {0}
IsAnswer version config (answers.Holding slot) = IsSlot config slot
IsAnswer version config answers.Nothing = Unit {0}
IsAnswer version config answers.Released = Unit {0}
IsAnswer version config (answers.Clock outcome) = IsClock outcome
IsAnswer version config (answers.Scanned kept back) = IsShort kept × IsShort back
IsAnswer version config (answers.Copied slot) = Since 2 version × IsSlot config slot
IsAnswer version config answers.Dropped = Since 2 version
IsAnswer version config (answers.Looked slot number value) = Since 2 version × IsSlot config slot × NumberFits number × ValueFits value
IsAnswer version config (answers.Stale number) = Since 3 version × NumberFits number
IsAnswer version config (answers.Left count) = Since 4 version × IsShort count
IsAnswer version config (answers.Adopted count) = Since 4 version × IsShort count
IsAnswer version config answers.NotLeft = Since 4 version
IsAnswer version config answers.AdoptedBefore = Since 4 version
