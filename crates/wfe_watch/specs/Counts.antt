-- What both counters share: rows, and counts that stand still at the end of their type.
use Rattle.std.specs.Prelude.{ℕ, ◌+◌, ◌-◌, ◌^◌, min, if◌then◌else◌, Bool, List, get_or}
use Rattle.wfe_outside.specs.declared.watcher.WatchRow.{WatchRow}

-- a count as a counter keeps it: one that has reached the greatest number of 64 bits stays there
abbrev pub capped : ℕ → ℕ
capped n = min n (2 ^ 64 - 1)

-- the count after one more, where there is one more
abbrev pub raised : Bool → ℕ → ℕ
raised more n = if more then capped (n + 1) else n

-- a row by its three numbers
abbrev pub row_of : ℕ → ℕ → ℕ → WatchRow
row_of a b c = record { a = a; b = b; c = c }

-- the row at a place; past the last one, a row of zeros
abbrev pub row_at : List WatchRow → ℕ → WatchRow
row_at rows place = get_or rows place (row_of 0 0 0)
