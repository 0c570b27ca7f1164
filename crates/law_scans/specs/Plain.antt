-- The laws on which calls scan, which move the clock and what they answer of it, by the plain numbers of retirements, over records.
use Rattle.law_reuse.specs.laws.defs.Entry.{Entry}
use Rattle.std.specs.Prelude.{List, ℕ, ◌≡◌}
use Rattle.law_reuse.specs.laws.records.Record.{Past, tells}
use Rattle.law_scans.specs.Outcomes.{clock_tally}
use Rattle.law_scans.specs.Scans.{tally_of}
use Rattle.law_reuse.specs.laws.HistoryAnswers.{plain_clock}
use Rattle.law_reuse.specs.laws.HistoryScans.{plain_tally}
use Rattle.law_reuse.specs.laws.StateAt.{total_retires}

-- a count that stops at the greatest number of 64 bits counts all that a seat has retired, at each position of the record
pub record CountsPlainly (every : ℕ) (r : Past) : Type 0 where
  pub tallies : (i : ℕ) (before : Past) (later : List Entry) → r ≡ tells before later → tally_of every i before ≡ plain_tally every i before
  pub clocks : (i : ℕ) (before : Past) (later : List Entry) → r ≡ tells before later → clock_tally every i before ≡ plain_clock every i before
  pub retired : (i : ℕ) (before : Past) (later : List Entry) → r ≡ tells before later → (tally_of every i before).retired ≡ total_retires i before
