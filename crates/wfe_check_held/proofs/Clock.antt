-- Which era was the clock at a position since an entry, by the clock right after it and the clock now.
use Rattle.std.proofs.Common.{◌≡◌, ◌≤◌, ℕ, ◌&&◌, ◌+◌, nat_le, arith}
use Rattle.std.proofs.lemmas.Bool.Decides.{nat_tests}
use Rattle.laws.specs.records.Record.{Past, Test, value_since}
use Rattle.laws.specs.records.Record.Past.{Start, Then}
use Rattle.laws.specs.defs.declared.event.Event.{Event}
use Rattle.laws.specs.defs.declared.event.Event.TheVariants as events
use Rattle.laws.specs.StateAt.{clock_of, was_clock, ticked_by}
use Rattle.wfe_check_rows.specs.Positions.{entries}

-- an entry moves the clock by one at most
pub ticks : (event : Event) (clock : ℕ) → (clock ≤ ticked_by event clock) × (ticked_by event clock ≤ clock + 1)
ticks (events.Era era) clock = (omega arith, omega arith)
ticks event clock = (omega arith, omega arith)

pub clock-starts : (p : Past) → 1 ≤ clock_of p
clock-starts Start = omega arith
clock-starts (Then p i event) = omega (arith, ticks event (clock_of p), clock-starts p)

-- the clock has not moved more often than there are entries
pub clock-at_most : (p : Past) → clock_of p ≤ entries p + 1
clock-at_most Start = omega arith
clock-at_most (Then p i event) = omega (arith, ticks event (clock_of p), clock-at_most p)

-- the clock right after the last such entry is no later than the clock
pub clock_since-at_most : (test : Test) (p : Past) → value_since test clock_of p ≤ clock_of p
clock_since-at_most test Start = omega arith
clock_since-at_most test (Then p i event) = grind (arith, nat_tests, ticks event (clock_of p), clock_since-at_most test p)

-- an era was the clock since the last such entry where it is none before the clock right after that, and none after the clock
pub clock_by_numbers : (test : Test) (era : ℕ) (p : Past) → was_clock test era p ≡ (nat_le (value_since test clock_of p) era && nat_le era (clock_of p))
clock_by_numbers test era Start = grind (arith, nat_tests)
clock_by_numbers test era (Then p i event) =
    grind (arith, nat_tests, ticks event (clock_of p), clock_by_numbers test era p, clock_since-at_most test p)
