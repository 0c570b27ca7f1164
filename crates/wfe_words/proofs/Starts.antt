-- The first value of a word, by its number.
use Rattle.std.proofs.Common.{ℕ, ◌≡◌, ◌<◌, ◌+◌, ◌/◌, true, arith, ap, sym, ◌∙◌}
use Rattle.std.specs.Prelude.{if◌then◌else◌, ◌==◌, ◌||◌}
use Rattle.std.proofs.lemmas.Bool.Decides.{nat_tests}
use Rattle.wfe_words.specs.declared.layout.Layout.{Layout}
use Rattle.wfe_words.specs.Packed.{halves}
use Rattle.wfe_words.specs.Place.{Place, has, number, words, place_at, start_of, start_at, claim_start}
use Rattle.wfe_words.specs.Place.Place.{Clock, Helper, Index, Interval, Request, Bucket, Head, Tail, Claim, Life, Row, PlaceOf}
use Rattle.wfe_words.proofs.Numbers.{row_below, place_at_there, number-place_at}

-- by comparing with the numbers of the few places that do not start with 0
abbrev start_by : Layout → ℕ → ℕ
start_by layout word =
    if word == number layout Clock then 1
    else if word == number layout Head || word == number layout Tail then layout.config.slots + 1
    else if word == number layout (Claim (layout.config.slots / 64)) then claim_start layout (layout.config.slots / 64)
    else if word == number layout (Life layout.config.slots) then halves 1 0
    else 0

by_number : (layout : Layout) (p : Place) → has layout p ≡ true → start_by layout (number layout p) ≡ start_of layout p
unfolding number claim_start
by_number layout Clock h = grind (arith, nat_tests)
by_number layout (Helper i) h = grind (arith, nat_tests)
by_number layout (Index i j) h = let a : i < layout.config.seats = grind (arith, nat_tests) in let b : j < layout.config.indexes = grind (arith, nat_tests) in
    let c = row_below i j layout.config.seats layout.config.indexes a b in grind (arith, nat_tests)
by_number layout (Interval i) h = grind (arith, nat_tests)
by_number layout (Request i) h = grind (arith, nat_tests)
by_number layout (Bucket i) h = grind (arith, nat_tests)
by_number layout Head h = grind (arith, nat_tests)
by_number layout Tail h = grind (arith, nat_tests)
by_number layout (Claim i) h = grind (arith, nat_tests)
by_number layout (Life i) h = grind (arith, nat_tests)
by_number layout (Row s p) h = grind (arith, nat_tests)
by_number layout (PlaceOf i) h = grind (arith, nat_tests)

-- a word below the table's size starts as its place does
pub start_at_by : (layout : Layout) (word : ℕ) → word < words layout → start_by layout word ≡ start_at layout word
start_at_by layout word h = ap (start_by layout) (sym (number-place_at layout word h)) ∙ by_number layout (place_at layout word) (place_at_there layout word h)
