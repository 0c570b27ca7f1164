-- One row: what an event makes of it, and when it is as a record leaves it.
use Rattle.std.specs.Prelude.{ℕ, ◌≡◌, Option, Some, None, true, false, List, slice_set, get_or, replicate, ◌+◌}
use Rattle.laws.specs.defs.declared.event.Event.{Event}
use Rattle.laws.specs.defs.declared.event.Event.TheVariants as events
use Rattle.laws.specs.defs.declared.event.Root.TheVariants as roots
use Rattle.laws.specs.records.Record.{Past}
use Rattle.laws.specs.StateAt.{taken_at, birth_of, retire_of, next_at}
use Rattle.wfe_check_rows.specs.declared.row.Row.{Row}

-- a row that the record has not named
abbrev pub free_row : Row
free_row = record { taken = false; birth = 1; retire = 0; next = None }

-- the rows before the first entry: the queue's first one, whose number is the number of slots, is taken, and no other
abbrev pub rows_at_start : (slots : ℕ) → List Row
rows_at_start slots = slice_set (replicate (slots + 1) free_row) slots (record free_row { taken = true })

-- the row that an event changes, if any
abbrev pub changed_row : Event → Option ℕ
changed_row (events.Give slot birth) = Some slot
changed_row (events.Unused slot) = Some slot
changed_row (events.Back slot) = Some slot
changed_row (events.Retire slot birth retire) = Some slot
changed_row (events.Link (roots.Next parent) slot) = Some parent
changed_row event = None

-- what it makes of that row
abbrev pub row_after : Event → Row → Row
row_after (events.Give slot birth) row = record { taken = true; birth = birth; retire = 0; next = None }
row_after (events.Unused slot) row = record row { taken = false }
row_after (events.Back slot) row = record row { taken = false }
row_after (events.Retire slot birth retire) row = record row { retire = retire }
row_after (events.Link (roots.Next parent) slot) row = record row { next = Some slot }
row_after event row = row

abbrev pub with_row : Option ℕ → Event → List Row → List Row
with_row None event rows = rows
with_row (Some slot) event rows = slice_set rows slot (row_after event (get_or rows slot free_row))

-- the rows after it
abbrev pub rows_after : Event → List Row → List Row
rows_after event rows = with_row (changed_row event) event rows

-- row s is as the record leaves it
pub record IsRow (slots s : ℕ) (row : Row) (p : Past) : Type 0 where
  pub taken : row.taken ≡ taken_at slots s p
  pub birth : row.birth ≡ birth_of s p
  pub retire : row.retire ≡ retire_of s p
  pub next : row.next ≡ next_at s p
