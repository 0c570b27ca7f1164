-- Counts of faults over two pieces of work.
use Rattle.std.proofs.Common.{ℕ, ◌<◌, ◌≤◌, Bool, arith}
use Rattle.std.proofs.lemmas.Bool.Decides.{nat_tests}
use Rattle.wfe_outside.specs.Faults.{Rose, one_more}

least_earlier : (before mid now : ℕ) → before ≤ mid → one_more mid ≤ now → one_more before ≤ now
least_earlier before mid now later least = grind (arith, nat_tests)

less_earlier : (before mid now : ℕ) → before ≤ mid → mid < now → before < now
less_earlier before mid now later less = omega arith

less_later : (before mid now : ℕ) → before < mid → mid ≤ now → before < now
less_later before mid now less later = omega arith

least_later : (before mid now : ℕ) → one_more before ≤ mid → mid ≤ now → one_more before ≤ now
least_later before mid now least later = omega (arith, least, later)

-- it rose in the first
pub rose_later : (may_stand : Bool) (before mid now : ℕ) → Rose may_stand before mid → mid ≤ now → Rose may_stand before now
rose_later may_stand before mid now rose later = record { rises = λ never. less_later before mid now (rose.rises never) later; least = least_later before mid now rose.least later }

-- it rose in the second
pub rose_earlier : (may_stand : Bool) (before mid now : ℕ) → before ≤ mid → Rose may_stand mid now → Rose may_stand before now
rose_earlier may_stand before mid now later rose = record { rises = λ never. less_earlier before mid now later (rose.rises never); least = least_earlier before mid now later rose.least }
