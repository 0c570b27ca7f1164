-- Each row is given, linked, cut, retired and given back once, in this order.
use Rattle.std.specs.Prelude.{Bool, Option, Some, false, is_none, not, true, ℕ, ◌&&◌, ◌==◌, ◌≡◌}
use Rattle.model_record.specs.Record.{EachEntry, Past, Test}
use Rattle.model_record.specs.defs.declared.event.Event.TheVariants as events
use Rattle.model_record.specs.defs.declared.event.Event.{Event}
use Rattle.model_record.specs.defs.declared.event.Root.TheVariants as roots
use Rattle.model_record.specs.defs.declared.call.Call.{Call}
use Rattle.model_record.specs.defs.declared.call.Call.TheVariants as calls
use Rattle.laws.specs.Once.Due.{NoneDue}
use Rattle.laws.specs.Once.{due_at, is_slot, lists_ok, order_ok, retiring_ok}
use Rattle.laws.specs.StateAt.Given.{InHand, Placed, Without}
use Rattle.laws.specs.Lists.{has_slot, list_of}
use Rattle.laws.specs.StateAt.{Given, began_of, retires_of, cut_at, given_of, head_at, next_at, retired_at, tail_at, taken_at, was_given}

-- A row is given only where it is free, and told Unused or Back, or retired, only where it is taken. A seat tells Back only of a row of
-- its own list, and retires only a row that it has cut and not retired since.
abbrev pub once_ok : ℕ → Test
once_ok slots p i (events.Give slot birth) = not (taken_at slots slot p)
once_ok slots p i (events.Unused slot) = taken_at slots slot p
once_ok slots p i (events.Back slot) = taken_at slots slot p && has_slot slot (list_of i p)
once_ok slots p i (events.Retire slot birth retire) = taken_at slots slot p && cut_at i slot p
once_ok slots p i event = true

abbrev pub FreeLaw : ℕ → Past → Type 0
FreeLaw slots r = EachEntry (once_ok slots) r

-- A row goes back only where it was retired since it went back last: so each retired row goes back at most once.
abbrev pub back_ok : Test
back_ok p i (events.Back slot) = retired_at slot p
back_ok p i event = true

abbrev pub BackOnce : Past → Type 0
BackOnce r = EachEntry back_ok r

abbrev pub is_without : Given → Bool
is_without Without = true
is_without (InHand slot) = false
is_without Placed = false

abbrev pub is_in_hand : ℕ → Given → Bool
is_in_hand slot Without = false
is_in_hand slot (InHand other) = other == slot
is_in_hand slot Placed = false

abbrev pub has_none : Given → Bool
has_none Without = true
has_none (InHand slot) = false
has_none Placed = true

-- A call is given a row only where none was given to it. What it links at a bucket's root or at a next link, and what it tells
-- Unused, is the row in its hand. Where it ends, no row is in its hand: the one that it was given was linked or told Unused, and
-- not both.
abbrev pub places_right : Event → Given → Bool
places_right (events.Give slot birth) before = is_without before
places_right (events.Unused slot) before = is_in_hand slot before
places_right (events.Link (roots.Bucket bucket) slot) before = is_in_hand slot before
places_right (events.Link (roots.Next parent) slot) before = is_in_hand slot before
places_right (events.End steps answer) before = has_none before
places_right event before = true

abbrev pub placing_ok : Test
placing_ok p i event = places_right event (given_of i p)

abbrev pub PlacingLaw : Past → Type 0
PlacingLaw r = EachEntry placing_ok r

-- After a link to a bucket's root the next entries, of the same seat, are the cut of the row that the root had, if it had one, and
-- a change of the bucket; after a link to a next link a Queued; after a link to the head the cut of the row that the head had, and a
-- Taken. Cuts and changes come nowhere else, and at the record's end none is missing.
pub record OrderLaw (slots : ℕ) (r : Past) : Type 0 where
  pub each : EachEntry (order_ok slots) r
  pub last : due_at slots r ≡ NoneDue

-- A row is linked at a next link only where that is of a row that was given, or of the dummy, and leads to none. What the head is
-- linked to is the next row of the head's row, and what the tail is linked to the next row of the tail's row.
abbrev pub nexts_ok : (slots : ℕ) → Test
nexts_ok slots p i (events.Link (roots.Next parent) slot) = was_given slots parent p && is_none (next_at parent p)
nexts_ok slots p i (events.Link roots.Head slot) = is_slot slot (next_at (head_at slots p) p)
nexts_ok slots p i (events.Link roots.Tail slot) = is_slot slot (next_at (tail_at slots p) p)
nexts_ok slots p i event = true

abbrev pub NextsLaw : (slots : ℕ) → Past → Type 0
NextsLaw slots r = EachEntry (nexts_ok slots) r

abbrev pub RetireLaw : Past → Type 0
RetireLaw r = EachEntry retiring_ok r

-- the calls that cut a row, and retire it
abbrev pub cuts_one : Option Call → Bool
cuts_one (Some (calls.Put key value)) = true
cuts_one (Some (calls.Remove key)) = true
cuts_one (Some (calls.PutIf key value version)) = true
cuts_one (Some calls.Dequeue) = true
cuts_one call = false

-- A call retires one row at most, and only a put, a remove or a dequeue retires one.
abbrev pub single_ok : Test
single_ok p i (events.Retire slot birth retire) = cuts_one (began_of i p) && retires_of i p == 0
single_ok p i event = true

abbrev pub SingleLaw : Past → Type 0
SingleLaw r = EachEntry single_ok r

abbrev pub ListLaw : Past → Type 0
ListLaw r = EachEntry lists_ok r

-- The way of a row from free to free.
pub record HistoryRows (slots : ℕ) (r : Past) : Type 0 where
  -- free rows are given, taken ones told unused or back, or retired; a seat tells back of its own list, and retires what it has cut
  pub free : FreeLaw slots r
  -- a row goes back only where it was retired since it went back last, so each retired row at most once
  pub back : BackOnce r
  -- a call is given one row at most, which it links or tells unused, not both, and links no other to a bucket or a next link
  pub placing : PlacingLaw r
  -- after a link come the cut of the row that it replaced and the change that it made, and these come nowhere else
  pub order : OrderLaw slots r
  -- a row is linked behind one that has no next row, and head and tail go on to the next row
  pub nexts : NextsLaw slots r
  -- a call retires each row that it cuts before it ends, once for each time that it cuts it, and no other
  pub retiring : RetireLaw r
  -- a call retires one row at most, and only a call that cuts one does
  pub single : SingleLaw r
  -- a list is left whole by the seat that leaves, and taken over whole, once at most
  pub lists : ListLaw r
