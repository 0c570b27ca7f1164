-- What held at a position since an entry, by the numbers of positions.
use Rattle.std.proofs.Common.{◌≡◌, ◌≤◌, Bool, ◌||◌, nat_lt, arith}
use Rattle.std.proofs.lemmas.Bool.Decides.{nat_tests}
use Rattle.laws.specs.records.Record.{Past, Test, held_since}
use Rattle.laws.specs.records.Record.Past.{Start, Then}
use Rattle.wfe_check_rows.specs.Positions.{entries, since, ceased}

-- both are positions of the record
pub since-at_most : (test : Test) (p : Past) → since test p ≤ entries p
since-at_most test Start = omega arith
since-at_most test (Then p i event) = grind (arith, nat_tests, since-at_most test p)

pub ceased-at_most : (f : Past → Bool) (p : Past) → ceased f p ≤ entries p
ceased-at_most f Start = omega arith
ceased-at_most f (Then p i event) = grind (arith, nat_tests, ceased-at_most f p)

-- it held since the last such entry where it holds, and where it turned false last after that
pub held_by_numbers : (test : Test) (f : Past → Bool) (p : Past) → held_since test f p ≡ (f p || nat_lt (since test p) (ceased f p))
held_by_numbers test f Start = grind (arith, nat_tests)
held_by_numbers test f (Then p i event) = grind (arith, nat_tests, held_by_numbers test f p, since-at_most test p, ceased-at_most f p)
