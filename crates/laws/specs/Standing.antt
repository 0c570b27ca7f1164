-- Calls and what stands: calls in turn, where a seat may clear, and which calls use which indexes.
use Rattle.std.specs.Prelude.{ℕ, Bool, false, true, Option, Some, ◌==◌, if◌then◌else◌, not, ◌&&◌, ◌||◌, nat_le, nat_lt}
use Rattle.model_record.specs.Record.{Test, EachEntry, Past}
use Rattle.model_record.specs.defs.declared.call.Call.{Call}
use Rattle.model_record.specs.defs.declared.call.Call.TheVariants as calls
use Rattle.model_record.specs.defs.declared.event.Event.TheVariants as events
use Rattle.laws.specs.Lists.{has_left}
use Rattle.laws.specs.StateAt.{stands, began_of, is_bare, is_dequeue, is_open}

-- a call begins where its seat is in none and has not left, and all else is told in a call: so a seat that left tells nothing after the
-- end of that call
abbrev pub open_ok : Test
open_ok p i (events.Begin call) = not (is_open i p) && not (has_left i p)
open_ok p i event = is_open i p

-- at a Clear of a seat the row stands at that index of the seat
abbrev pub clears_ok : Test
clears_ok p i (events.Clear index slot) = stands i index slot p
clears_ok p i event = true

abbrev pub is_hold : Option Call → Bool
is_hold (Some (calls.Hold key)) = true
is_hold call = false

-- a hold, which may let go of what it held before, or a release
abbrev pub lets_go : Option Call → Bool
lets_go (Some (calls.Hold key)) = true
lets_go (Some calls.Release) = true
lets_go call = false

-- a call may hold a row at this index: at 2 a hold alone, and at 1 a dequeue alone
abbrev pub may_hold : Option Call → ℕ → Bool
may_hold call index = if index == 2 then is_hold call else (if index == 1 then is_dequeue call else true)

-- a call may tell that there is none at this index
abbrev pub may_miss : Option Call → ℕ → Bool
may_miss call index = if index == 1 then is_dequeue call else true

-- a drop of what stands at this index
abbrev pub is_drop : ℕ → Option Call → Bool
is_drop index (Some (calls.DropIndex dropped)) = dropped == index
is_drop index call = false

-- a copy to this index
abbrev pub is_copy_to : ℕ → Option Call → Bool
is_copy_to index (Some (calls.Copy from to)) = to == index
is_copy_to index call = false

-- a copy from this index to that
abbrev pub is_copy : (from index : ℕ) → Option Call → Bool
is_copy from index (Some (calls.Copy one other)) = one == from && other == index
is_copy from index call = false

-- a call by which the seat leaves
abbrev pub is_leave : Option Call → Bool
is_leave (Some calls.Leave) = true
is_leave call = false

-- a call may clear this index: 1 a dequeue, 2 a hold, a release or a drop, and those above 2 a copy to it or a drop; those from 2 on also
-- one by which the seat leaves
abbrev pub may_clear : Option Call → ℕ → Bool
may_clear call index =
    if index == 0 then true
    else if index == 1 then is_dequeue call
    else if index == 2 then lets_go call || (is_drop 2 call || is_leave call)
    else is_copy_to index call || (is_drop index call || is_leave call)

abbrev pub indexes_ok : Test
indexes_ok p i (events.Held index slot steps) = may_hold (began_of i p) index
indexes_ok p i (events.Null index steps) = may_miss (began_of i p) index
indexes_ok p i (events.Clear index slot) = may_clear (began_of i p) index
indexes_ok p i event = true

-- A Copied is told in a copy of these indexes, which goes upwards from an index from 2 on. The row stands at the one, and nothing at the
-- other.
abbrev pub copies_ok : Test
copies_ok p i (events.Copied from index slot) =
    is_copy from index (began_of i p) && (stands i from slot p && (is_bare i index p && (nat_le 2 from && nat_lt from index)))
copies_ok p i event = true

-- What seats clear and copy, and at which indexes.
pub record Standing (r : Past) : Type 0 where
  -- a seat tells that a row stands at an index no more only where the row stands there
  pub clears : EachEntry clears_ok r
  -- index 2 is held only in a hold, and cleared only in a hold, a release, a drop of it or where the seat leaves; index 1 is used only in
  -- a dequeue; an index above 2 is cleared only in a copy to it, a drop of it or where the seat leaves
  pub indexes : EachEntry indexes_ok r
  -- what stands is copied in a copy, upwards, to an index at which nothing stands
  pub copies : EachEntry copies_ok r
