-- How many rows each seat has retired and given back, and how many wait in its list, as the lines of a table print it.
use Rattle.std.specs.Prelude.{List, None, Some, [], min, sum_by, ℕ, ◌+◌, ◌++◌, ◌-◌, ◌^◌, ◌∷◌}
use Rattle.wfe_outside.specs.defs.declared.event.Event.{Event}
use Rattle.wfe_outside.specs.declared.watcher.WatchRow.{WatchRow}
use Rattle.wfe_server_out.specs.Pieces.{Piece, Text}
use Rattle.wfe_trace.specs.Record.{table_line}
use Rattle.wfe_watch.specs.Garbage.{garbage_after}
use Rattle.wfe_watch.specs.Lists.{lists_after, waiting_at, waiting_in_all}

-- the counts after the events of a step of the seat
abbrev pub counted_all : List WatchRow → ℕ → List Event → List WatchRow
counted_all rows seat [] = rows
counted_all rows seat (event ∷ told) = counted_all (garbage_after rows seat event) seat told

-- the rows in each list after the events of a step of the seat
abbrev pub listed_all : List ℕ → ℕ → List Event → List ℕ
listed_all waiting seat [] = waiting
listed_all waiting seat (event ∷ told) = listed_all (lists_after waiting seat event) seat told

-- the line of a seat with these counts, and with so many rows in its list
abbrev pub seat_line : ℕ → WatchRow → (rows : ℕ) → List ℕ
seat_line seat row rows = table_line (Some seat) row.b row.c rows

-- the lines of the seats, from this one on
abbrev pub seat_lines : ℕ → List WatchRow → (waiting : List ℕ) → List Piece
seat_lines seat [] waiting = []
seat_lines seat (row ∷ rows) waiting = Text (seat_line seat row (waiting_at waiting seat)) ∷ seat_lines (seat + 1) rows waiting

-- the sum of a count over the seats; it ends at the greatest number of 64 bits
abbrev pub total : (WatchRow → ℕ) → List WatchRow → ℕ
total count rows = min (sum_by count rows) (2 ^ 64 - 1)

abbrev pub retired_in_all : List WatchRow → ℕ
retired_in_all rows = total (λ row. row.b) rows

abbrev pub back_in_all : List WatchRow → ℕ
back_in_all rows = total (λ row. row.c) rows

-- the line of all seats together
abbrev pub total_line : List WatchRow → (waiting : List ℕ) → List ℕ
total_line rows waiting = table_line None (retired_in_all rows) (back_in_all rows) (waiting_in_all waiting)

abbrev pub table_pieces : List WatchRow → (waiting : List ℕ) → List Piece
table_pieces rows waiting = seat_lines 0 rows waiting ++ Text (total_line rows waiting) ∷ []
