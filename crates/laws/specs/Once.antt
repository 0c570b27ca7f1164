-- Each row is given, linked, cut, retired and given back once, in this order.
use Rattle.std.specs.Prelude.{not, true, ℕ, ◌&&◌, Bool, false, ◌==◌, None, Option, Some, is_none, ◌||◌, List, length, if◌then◌else◌}
use Rattle.model_record.specs.Record.{Test, EachEntry, Past}
use Rattle.model_record.specs.Record.Past.{Then, Start}
use Rattle.model_record.specs.defs.declared.call.Call.{Call}
use Rattle.model_record.specs.defs.declared.call.Call.TheVariants as calls
use Rattle.model_record.specs.defs.declared.event.Event.{Event}
use Rattle.model_record.specs.defs.declared.event.Event.TheVariants as events
use Rattle.model_record.specs.defs.declared.event.Root.TheVariants as roots
use Rattle.laws.specs.Standing.{is_leave}
use Rattle.laws.specs.Lists.{has_left, has_slot, is_adopted, list_of}
use Rattle.laws.specs.StateAt.{began_of, taken_at, bucket_at, head_at, next_at, tail_at, is_among, is_empty, is_row, cuts_of, seen}

-- A row is given only where it is free, and told Unused or Back only where it is taken.
abbrev pub free_ok : (slots : ℕ) → Test
free_ok slots p i (events.Give slot birth) = not (taken_at slots slot p)
free_ok slots p i (events.Unused slot) = taken_at slots slot p
free_ok slots p i (events.Back slot) = taken_at slots slot p
free_ok slots p i event = true

-- what a call has done with the row that it was given: which one that was, whether it linked it at a bucket's root or at a next link,
-- and whether it told it unused
pub record Grant : Type 0 where
  pub row : Option ℕ
  pub linked : Bool
  pub unused : Bool

abbrev pub no_grant : Grant
no_grant = record { row = None; linked = false; unused = false }

abbrev pub linked_to : ℕ → Grant → Grant
linked_to slot before = if is_row slot before.row then record before { linked = true } else before

abbrev pub granted_by : Event → Grant → Grant
granted_by (events.Begin call) before = no_grant
granted_by (events.Give slot birth) before = record { row = Some slot; linked = false; unused = false }
granted_by (events.Unused slot) before = if is_row slot before.row then record before { unused = true } else before
granted_by (events.Link (roots.Bucket bucket) slot) before = linked_to slot before
granted_by (events.Link (roots.Next parent) slot) before = linked_to slot before
granted_by event before = before

-- of the call that seat i began last
abbrev pub grant_of : ℕ → Past → Grant
grant_of i p = seen granted_by no_grant i p

-- the row was given in the call, and is not linked yet
abbrev pub may_link : ℕ → Grant → Bool
may_link slot grant = is_row slot grant.row && not grant.linked

-- no row was given, or it was either linked or told unused
abbrev pub is_placed : Grant → Bool
is_placed grant = is_none grant.row || (if grant.linked then not grant.unused else grant.unused)

-- A call is given one row at most. What it links at a bucket's root or at a next link is that row, not linked yet. Where the call ends,
-- the row was linked or told unused by the same seat, and not both.
abbrev pub places_right : Event → Grant → Bool
places_right (events.Give slot birth) before = is_none before.row
places_right (events.Link (roots.Bucket bucket) slot) before = may_link slot before
places_right (events.Link (roots.Next parent) slot) before = may_link slot before
places_right (events.End steps answer) before = is_placed before
places_right event before = true

abbrev pub placing_ok : Test
placing_ok p i event = places_right event (grant_of i p)

-- what has to be told next, and by which seat. `CutDue`: that this row is cut; `ChangeDue`: a Put or Removed of this bucket;
-- `QueuedDue`, `TakenDue`: a Queued, a Taken
pub data Due : Type 0 where
  NoneDue : Due
  CutDue : (seat slot : ℕ) → Due
  ChangeDue : (seat bucket : ℕ) → Due
  QueuedDue : (seat : ℕ) → Due
  TakenDue : (seat : ℕ) → Due

-- after a link to a bucket's root that had this row before
abbrev pub due_linked : (seat bucket : ℕ) → Option ℕ → Due
due_linked seat bucket None = ChangeDue seat bucket
due_linked seat bucket (Some old) = CutDue seat old

-- after a cut: what the link before it makes
abbrev pub due_cut : (seat : ℕ) → Past → Due
due_cut seat (Then p k (events.Link (roots.Bucket bucket) slot)) = ChangeDue seat bucket
due_cut seat (Then p k (events.Link roots.Head slot)) = TakenDue seat
due_cut seat p = NoneDue

abbrev pub due_by : (slots : ℕ) → Past → (seat : ℕ) → Event → Due
due_by slots p i (events.Link (roots.Bucket bucket) slot) = due_linked i bucket (bucket_at bucket p)
due_by slots p i (events.Link (roots.Next parent) slot) = QueuedDue i
due_by slots p i (events.Link roots.Head slot) = CutDue i (head_at slots p)
due_by slots p i (events.Cut slot) = due_cut i p
due_by slots p i event = NoneDue

abbrev pub due_at : (slots : ℕ) → Past → Due
due_at slots Start = NoneDue
due_at slots (Then p i event) = due_by slots p i event

-- cuts, and changes of the map and of the queue, come only where they are due
abbrev pub is_free : Event → Bool
is_free (events.Cut slot) = false
is_free (events.Put bucket version key value) = false
is_free (events.Removed bucket version key) = false
is_free (events.Queued number value) = false
is_free (events.Taken number value) = false
is_free event = true

abbrev pub cuts_due : (seat slot i : ℕ) → Event → Bool
cuts_due seat slot i (events.Cut other) = i == seat && other == slot
cuts_due seat slot i event = false

abbrev pub changes_due : (seat bucket i : ℕ) → Event → Bool
changes_due seat bucket i (events.Put other version key value) = i == seat && other == bucket
changes_due seat bucket i (events.Removed other version key) = i == seat && other == bucket
changes_due seat bucket i event = false

abbrev pub queued_due : (seat i : ℕ) → Event → Bool
queued_due seat i (events.Queued number value) = i == seat
queued_due seat i event = false

abbrev pub taken_due : (seat i : ℕ) → Event → Bool
taken_due seat i (events.Taken number value) = i == seat
taken_due seat i event = false

abbrev pub meets_due : Due → ℕ → Event → Bool
meets_due NoneDue i event = is_free event
meets_due (CutDue seat slot) i event = cuts_due seat slot i event
meets_due (ChangeDue seat bucket) i event = changes_due seat bucket i event
meets_due (QueuedDue seat) i event = queued_due seat i event
meets_due (TakenDue seat) i event = taken_due seat i event

-- After a link to a bucket's root the next entries, of the same seat, are the cut of the row that the root had, if it had one, and
-- a change of the bucket; after a link to a next link a Queued; after a link to the head the cut of the row that the head had, and a
-- Taken. Cuts and changes come nowhere else.
abbrev pub order_ok : (slots : ℕ) → Test
order_ok slots p i event = meets_due (due_at slots p) i event

abbrev pub is_slot : ℕ → Option ℕ → Bool
is_slot slot None = false
is_slot slot (Some other) = other == slot

-- A row is linked at a next link only where that leads to none. What the head is linked to is the next row of the head's row, and what
-- the tail is linked to the next row of the tail's row.
abbrev pub nexts_ok : (slots : ℕ) → Test
nexts_ok slots p i (events.Link (roots.Next parent) slot) = is_none (next_at parent p)
nexts_ok slots p i (events.Link roots.Head slot) = is_slot slot (next_at (head_at slots p) p)
nexts_ok slots p i (events.Link roots.Tail slot) = is_slot slot (next_at (tail_at slots p) p)
nexts_ok slots p i event = true

-- A row is retired only by a call that has cut it and not retired it since, and where a call ends it has retired all that it has
-- cut: each just once for each Cut.
abbrev pub retires_right : Event → List ℕ → Bool
retires_right (events.Retire slot birth retire) before = is_among slot before
retires_right (events.End steps answer) before = is_empty before
retires_right event before = true

abbrev pub retiring_ok : Test
retiring_ok p i event = retires_right event (cuts_of i p)

-- A row goes back only from the list of the seat that tells so.
abbrev pub backs_ok : Test
backs_ok p i (events.Back slot) = has_slot slot (list_of i p)
backs_ok p i event = true

-- a call that takes over the list of this seat
abbrev pub is_adopt : ℕ → Option Call → Bool
is_adopt place (Some (calls.Adopt other)) = other == place
is_adopt place call = false

-- A list is left only in a call by which its seat leaves. It is taken over only in a call for it, once its seat has left it and before
-- any other seat has taken it over. The numbers told are the lengths of the lists.
abbrev pub lists_ok : Test
lists_ok p i (events.Left count) = is_leave (began_of i p) && count == length (list_of i p)
lists_ok p i (events.Adopted place count) =
    is_adopt place (began_of i p) && (has_left place p && (not (is_adopted place p) && count == length (list_of place p)))
lists_ok p i event = true

-- The way of a row from free to free.
pub record Once (slots : ℕ) (r : Past) : Type 0 where
  -- free rows are given, and taken ones told unused or back
  pub free : EachEntry (free_ok slots) r
  -- a call is given one row at most, links at a bucket's root or at a next link that row alone and once, and has linked it or told it
  -- unused where it ends, and not both
  pub placing : EachEntry placing_ok r
  -- after a link come the cut of the row that it replaced and the change that it made, and these come nowhere else
  pub order : EachEntry (order_ok slots) r
  -- a row is linked behind one that has no next row, and head and tail go on to the next row
  pub nexts : EachEntry (nexts_ok slots) r
  -- a call retires each row that it cuts before it ends, once for each time that it cuts it, and no other
  pub retiring : EachEntry retiring_ok r
  -- a row goes back only from the list of the seat that tells so
  pub backs : EachEntry backs_ok r
  -- a list is left whole by the seat that leaves, and taken over whole, once at most
  pub lists : EachEntry lists_ok r
