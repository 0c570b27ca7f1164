-- The most steps of its own seat that a protection or a call takes, whatever other seats do. A try takes three steps. Under
-- Wait-Free Eras a protection whose tries have failed asks for help, and is then over within a few steps more.
use Rattle.std.specs.Prelude.{ℕ, ◌+◌, ◌*◌}

-- with at most this step a protection of Wait-Free Eras tells its row, or that there is none
abbrev pub told_most : (tries : ℕ) → ℕ
told_most tries = 3 * tries + 12

-- with at most this step it is over, its helper word withdrawn
abbrev pub over_most : (tries : ℕ) → ℕ
over_most tries = 3 * tries + 14

-- with at most this step one that follows the head's next link tells its row: it loads the head once more
abbrev pub next_told_most : (tries : ℕ) → ℕ
next_told_most tries = 3 * tries + 15

-- with at most this step one that follows is over: no protection takes more
abbrev pub next_over_most : (tries : ℕ) → ℕ
next_over_most tries = 3 * tries + 16

-- a hold under Wait-Free Eras, which first lets go of what was held, and clears its index where it finds nothing
abbrev pub hold_most : (tries : ℕ) → ℕ
hold_most tries = 3 * tries + 16

-- a get under Wait-Free Eras, which loads a version, a count, a key for each of so many pairs at most, and one value
abbrev pub get_most : (tries pairs : ℕ) → ℕ
get_most tries pairs = 3 * tries + 18 + pairs

-- a look, which loads a version, a count, a key for each of so many pairs at most, and one value
abbrev pub look_most : (pairs : ℕ) → ℕ
look_most pairs = 3 + pairs

-- a move of the clock that helps so many seats
abbrev pub clock_most : (seats : ℕ) → ℕ
clock_most seats = 7 * seats + 3
