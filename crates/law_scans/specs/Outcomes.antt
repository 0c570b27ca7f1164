-- The law on what a call answers of the clock, over records.
use Rattle.law_reuse.specs.laws.records.Record.{Past, Test, EachEntry}
use Rattle.law_reuse.specs.laws.StateAt.{seen}
use Rattle.std.specs.Prelude.{ℕ, None, ◌%◌, ◌==◌}
use Rattle.law_reuse.specs.laws.HistoryAnswers.{ClockTally, plain_clock_by, no_clock, clock_right}
use Rattle.law_reuse.specs.inv.model.Memory.{bump}
use Rattle.law_reuse.specs.laws.defs.declared.event.Event.{Event}
use Rattle.law_reuse.specs.laws.defs.declared.event.Event.TheVariants as events
use Rattle.law_reuse.specs.laws.words.Schemes.{moves}
use Rattle.law_reuse.specs.laws.words.declared.config.Config.{Config}

-- the tally of a seat whose count of retirements stays at the greatest number of 64 bits
abbrev pub clock_by : (every : ℕ) → Event → ClockTally → ClockTally
clock_by every (events.Retire slot birth retire) before = record { retired = bump before.retired; due = bump before.retired % every == 0; moved = None }
clock_by every event before = plain_clock_by every event before

abbrev pub clock_tally : (every : ℕ) → ℕ → Past → ClockTally
clock_tally every i p = seen (clock_by every) no_clock i p

-- where a call ends, what it answers of the clock fits what it has told
abbrev pub clocks_ok : Config → Test
clocks_ok config p i event = clock_right (moves config.scheme) config.last_era event (clock_tally config.every i p)

abbrev pub ClockOutcomes : Config → Past → Type 0
ClockOutcomes config r = EachEntry (clocks_ok config) r
