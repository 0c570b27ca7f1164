-- What one entry makes of each cell.
use Rattle.std.specs.Prelude.{ℕ, true, false, Option, Some, ◌≡◌, ◌<◌, ◌+◌, ◌==◌, ◌&&◌, not, if◌then◌else◌, length}
use Rattle.laws.specs.records.Record.{Past}
use Rattle.wfe_words.specs.declared.config.Config.{Config}
use Rattle.wfe_defs.specs.declared.event.Event.{Event}
use Rattle.wfe_defs.specs.declared.event.Event.TheVariants as events
use Rattle.wfe_defs.specs.declared.event.Root.TheVariants as roots
use Rattle.laws.specs.StateAt.{is_row, ticked_by}
use Rattle.wfe_check_held.specs.Grids.{cell_at}
use Rattle.wfe_check_held.specs.Roots.{looks_at, place_of, root_row}
use Rattle.wfe_check_held.specs.Times.{row_at, seat_at}
use Rattle.wfe_check_held.specs.declared.rows.Row.{Row}
use Rattle.wfe_check_held.specs.declared.seats.Seat.{Seat}
use Rattle.wfe_check_held.specs.declared.times.Times.{Times}

-- a seat after an event of the seat: `position` is that after the event, `clock` the clock before it
abbrev pub seat_after : Event → (position clock : ℕ) → Seat → Seat
seat_after (events.Begin call) position clock cell = record { begun = position; clock = clock; call = Some call }
seat_after event position clock cell = cell

-- a row that is let go, if it was taken
abbrev pub freed_row : (position : ℕ) → Row → Row
freed_row position cell = if cell.taken then record cell { taken = false; freed = position } else cell

abbrev pub passed_row : (position : ℕ) → Row → Row
passed_row position cell = record cell { passed = position }

-- row s after an event of any seat; `last`: the last row of the queue before it
abbrev pub row_after : (s : ℕ) → Event → (position : ℕ) → (last : Option ℕ) → Row → Row
row_after s (events.Give slot birth) position last cell = if s == slot then record cell { taken = true } else cell
row_after s (events.Unused slot) position last cell = if s == slot then freed_row position cell else cell
row_after s (events.Back slot) position last cell = if s == slot then freed_row position cell else cell
row_after s (events.Link roots.Head slot) position last cell = if is_row s last && not (s == slot) then passed_row position cell else cell
row_after s (events.Link (roots.Next parent) slot) position last cell = if is_row s last && s == parent then passed_row position cell else cell
row_after s event position last cell = cell

-- the cut of row s by seat i, after an event of a seat
abbrev pub cut_after : (i s seat : ℕ) → Event → (clock : ℕ) → (cell : ℕ) → ℕ
cut_after i s seat (events.Cut slot) clock cell = if i == seat && s == slot then clock else cell
cut_after i s seat event clock cell = cell

-- what the root of seat i may have at a place, after an event of a seat. `found`: where a call begins, what its root has
abbrev pub had_after : (buckets i : ℕ) → (of : Seat) → (place seat : ℕ) → Event → (found : Option ℕ) → (position cell : ℕ) → ℕ
had_after buckets i of place seat (events.Begin call) found position cell = if i == seat && place == place_of found then position else cell
had_after buckets i of place seat (events.Link root slot) found position cell =
    if looks_at buckets of.call root && place == slot + 1 then of.begun else cell
had_after buckets i of place seat event found position cell = cell

-- where a call begins, this is the row of its root
abbrev pub IsFound : Config → Event → Option ℕ → Past → Type 0
IsFound config (events.Begin call) found p = found ≡ root_row config (Some call) p
IsFound config event found p = Unit {0}

-- all that is kept, after an entry
pub record IsNext (old new : Times) (by : ℕ) (event : Event) (found last : Option ℕ) : Type 0 where
  pub setting : new.config ≡ old.config
  pub entries : new.entries ≡ old.entries + 1
  pub clock : new.clock ≡ ticked_by event old.clock
  pub seats : length new.seats.items ≡ length old.seats.items
  pub rows : length new.rows.items ≡ length old.rows.items
  pub cut_width : new.cuts.width ≡ old.cuts.width
  pub cut_count : length new.cuts.cells.items ≡ length old.cuts.cells.items
  pub had_width : new.had.width ≡ old.had.width
  pub had_count : length new.had.cells.items ≡ length old.had.cells.items
  pub seat : (i : ℕ) → i < length old.seats.items →
      seat_at new.seats.items i
      ≡ (if i == by then seat_after event (old.entries + 1) old.clock (seat_at old.seats.items i) else seat_at old.seats.items i)
  pub row : (s : ℕ) → s < length old.rows.items →
      row_at new.rows.items s ≡ row_after s event (old.entries + 1) last (row_at old.rows.items s)
  pub cut : (i s : ℕ) → s < old.cuts.width → cell_at new.cuts i s ≡ cut_after i s by event old.clock (cell_at old.cuts i s)
  pub had : (i place : ℕ) → i < length old.seats.items → place < old.had.width →
      cell_at new.had i place
      ≡ had_after old.config.buckets i (seat_at old.seats.items i) place by event found (old.entries + 1) (cell_at old.had i place)
