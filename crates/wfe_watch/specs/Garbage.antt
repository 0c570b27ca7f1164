-- The rows of a counter of garbage, from the entries told.
use Rattle.std.specs.Prelude.{◌≡◌, ℕ, zero, suc, ◌==◌, ◌&&◌, Bool, true, false, List, [], ◌∷◌, ◌++◌, length, count_by, slice_set}
use Rattle.wfe_defs.specs.Entry.{Entry}
use Rattle.wfe_defs.specs.declared.event.Event.{Event}
use Rattle.wfe_defs.specs.declared.event.Event.TheVariants as events
use Rattle.wfe_outside.specs.declared.watcher.WatchRow.{WatchRow}
use Rattle.wfe_watch.specs.Counts.{capped, raised, row_at, row_of}

-- a cut row gets its retire era
abbrev pub is_retire : Event → Bool
is_retire (events.Retire slot birth retire) = true
is_retire _ = false

-- a retired row is free again
abbrev pub is_back : Event → Bool
is_back (events.Back slot) = true
is_back _ = false

-- how many rows the seat retired
abbrev pub retired : ℕ → List Entry → ℕ
retired seat told = count_by (λ x. x.seat == seat && is_retire x.event) told

-- how many rows the seat gave back
abbrev pub given_back : ℕ → List Entry → ℕ
given_back seat told = count_by (λ x. x.seat == seat && is_back x.event) told

-- the row of a seat: its number, the rows it retired, the rows it gave back
abbrev pub garbage_row : ℕ → List Entry → WatchRow
garbage_row seat told = row_of seat (capped (retired seat told)) (capped (given_back seat told))

-- the rows of so many seats, in the order of their numbers
abbrev pub garbage_rows : ℕ → List Entry → List WatchRow
garbage_rows zero told = []
garbage_rows (suc seats) told = garbage_rows seats told ++ garbage_row seats told ∷ []

-- a seat's row after one more event of the seat
abbrev pub with_garbage : Event → WatchRow → WatchRow
with_garbage event row = row_of row.a (raised (is_retire event) row.b) (raised (is_back event) row.c)

-- the rows after one more event of a seat; one past the last row changes none
abbrev pub garbage_after : List WatchRow → ℕ → Event → List WatchRow
garbage_after rows seat event = slice_set rows seat (with_garbage event (row_at rows seat))

-- the rows are those of the entries, for as many seats as there are rows
abbrev pub CountsGarbage : List WatchRow → List Entry → Type 0
CountsGarbage rows told = rows ≡ garbage_rows (length rows) told
