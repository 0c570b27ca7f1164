-- The laws on the clock at the positions of a call, over records: which eras a call gives, retires and publishes.
use Rattle.law_scans.specs.laws.records.Record.{Past, Test, value_since}
use Rattle.law_scans.specs.laws.StateAt.{clock_of, was_clock}
use Rattle.std.specs.Prelude.{nat_le, ℕ, ◌≡◌, ◌&&◌}

-- these positions by the clock at the first of them and the present one: the clock rises by one, so each era between was the clock
abbrev pub ClockBetween : Type 0
ClockBetween = (test : Test) (era : ℕ) (p : Past) → was_clock test era p ≡ (nat_le (value_since test clock_of p) era && nat_le era (clock_of p))
