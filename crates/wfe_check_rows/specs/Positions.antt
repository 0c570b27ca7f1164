-- The positions of a record by number: the entries before them.
use Rattle.std.specs.Prelude.{ℕ, Bool, not, ◌&&◌, ◌+◌, if◌then◌else◌}
use Rattle.laws.specs.records.Record.{Past, Test}
use Rattle.laws.specs.records.Record.Past.{Start, Then}

-- how many entries there are
abbrev pub entries : Past → ℕ
entries Start = 0
entries (Then p i event) = entries p + 1

-- the position right after the last entry that passes the test, and the first one where none does
abbrev pub since : Test → Past → ℕ
since test Start = 0
since test (Then p i event) = if test p i event then entries p + 1 else since test p

-- the position at which it turned false last, and the first one where it never did
abbrev pub ceased : (Past → Bool) → Past → ℕ
ceased f Start = 0
ceased f (Then p i event) = if f p && not (f (Then p i event)) then entries p + 1 else ceased f p
