-- What rows and roots show by themselves: the tests of an entry, and what is due after it.
use Rattle.std.specs.Prelude.{ℕ, Bool, true, not, ◌==◌, ◌+◌, ◌&&◌, Option, Some, None, is_none, nat_le, List, slice_set, get_or}
use Rattle.laws.specs.defs.declared.event.Event.{Event}
use Rattle.laws.specs.defs.declared.event.Event.TheVariants as events
use Rattle.laws.specs.defs.declared.event.Root.TheVariants as links
use Rattle.laws.specs.defs.declared.lifetime.Lifetime.{Lifetime}
use Rattle.laws.specs.Once.{Due, NoneDue, CutDue, QueuedDue, due_linked, is_slot, meets_due}
use Rattle.wfe_check_rows.specs.declared.row.Row.{Row}
use Rattle.wfe_check_rows.specs.declared.rows.Rows.{Rows}
use Rattle.wfe_check_rows.specs.Due.{due_left, due_of}
use Rattle.wfe_check_rows.specs.Row.{free_row}

-- the row of this number
abbrev pub row : Rows → ℕ → Row
row rows slot = get_or rows.rows.items slot free_row

-- its life
abbrev pub life_of : Rows → ℕ → Lifetime
life_of rows slot = record { slot = slot; birth = (row rows slot).birth; retire = (row rows slot).retire }

-- the row of a bucket's root
abbrev pub root : Rows → ℕ → Option ℕ
root rows bucket = get_or rows.roots.items bucket None

-- free rows alone are given, and taken ones told unused or back
abbrev pub frees : Rows → Event → Bool
frees rows (events.Give slot birth) = not (row rows slot).taken
frees rows (events.Unused slot) = (row rows slot).taken
frees rows (events.Back slot) = (row rows slot).taken
frees rows event = true

-- next links, and what head and tail go on to
abbrev pub goes_on : Rows → Event → Bool
goes_on rows (events.Link (links.Next parent) slot) = is_none (row rows parent).next
goes_on rows (events.Link links.Head slot) = is_slot slot (row rows rows.head).next
goes_on rows (events.Link links.Tail slot) = is_slot slot (row rows rows.tail).next
goes_on rows event = true

-- the clock goes on by one, up to the last era
abbrev pub ticks : Rows → Event → Bool
ticks rows (events.Era era) = era == rows.clock + 1 && nat_le era rows.config.last_era
ticks rows event = true

-- all four tests of an entry
abbrev pub right : Rows → ℕ → Event → Bool
right rows seat event = frees rows event && goes_on rows event && meets_due (due_of rows.due) seat event && ticks rows event

-- what is due after an event of a seat
abbrev pub due_after : Rows → ℕ → Event → Due
due_after rows seat (events.Link (links.Bucket bucket) slot) = due_linked seat bucket (root rows bucket)
due_after rows seat (events.Link (links.Next parent) slot) = QueuedDue seat
due_after rows seat (events.Link links.Head slot) = CutDue seat rows.head
due_after rows seat (events.Cut slot) = due_left rows.last seat
due_after rows seat event = NoneDue

-- the roots of the buckets after an event
abbrev pub roots_after : Event → List (Option ℕ) → List (Option ℕ)
roots_after (events.Link (links.Bucket bucket) slot) roots = slice_set roots bucket (Some slot)
roots_after event roots = roots
