-- How many rows wait in each seat's retire list, from the entries told: a retired row is added, one that goes back is taken
-- out, and a seat that takes over the list of another has its rows, and the other none.
use Rattle.std.specs.Prelude.{List, [], get_or, replicate, slice_set, sum, ℕ, ◌+◌, ◌-◌, ◌∷◌}
use Rattle.wfe_defs.specs.Entry.{Entry}
use Rattle.wfe_defs.specs.declared.event.Event.{Event}
use Rattle.wfe_defs.specs.declared.event.Event.TheVariants as events
use Rattle.wfe_watch.specs.Counts.{capped}

-- how many wait in the seat's list; in that of a seat that there is not, none
abbrev pub waiting_at : List ℕ → ℕ → ℕ
waiting_at counts seat = get_or counts seat 0

-- the rows of the list of another seat are the seat's
abbrev pub handed_over : List ℕ → (seat place : ℕ) → List ℕ
handed_over counts seat place =
    let bare : List ℕ = slice_set counts place 0 in slice_set bare seat (capped (waiting_at bare seat + waiting_at counts place))

-- the counts after one more event of a seat
abbrev pub lists_after : List ℕ → ℕ → Event → List ℕ
lists_after counts seat (events.Retire slot birth retire) = slice_set counts seat (capped (waiting_at counts seat + 1))
lists_after counts seat (events.Back slot) = slice_set counts seat (waiting_at counts seat - 1)
lists_after counts seat (events.Adopted place count) = handed_over counts seat place
lists_after counts seat event = counts

-- those after entries told in order
abbrev pub lists_told : List ℕ → List Entry → List ℕ
lists_told counts [] = counts
lists_told counts (x ∷ told) = lists_told (lists_after counts x.seat x.event) told

-- so many seats, whose lists are empty
abbrev pub no_lists : ℕ → List ℕ
no_lists seats = replicate seats 0

-- how many rows wait in each of so many seats' lists, where these entries were told
abbrev pub waiting_in : ℕ → List Entry → List ℕ
waiting_in seats told = lists_told (no_lists seats) told

-- how many wait in all
abbrev pub waiting_in_all : List ℕ → ℕ
waiting_in_all counts = capped (sum counts)
