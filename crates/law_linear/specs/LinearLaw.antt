-- The law of all calls together: a record is linearizable.
use Rattle.std.specs.Prelude.{Bool, List, Option, Some, [], false, if◌then◌else◌, true, ℕ, ◌%◌, ◌&&◌, ◌+◌, ◌==◌, ◌∷◌}
use Rattle.laws.specs.StateAt.{began_of, told_of}
use Rattle.laws.specs.defs.declared.call.Call.TheVariants as calls
use Rattle.laws.specs.defs.declared.call.Call.{Call}
use Rattle.laws.specs.defs.declared.event.Event.TheVariants as events
use Rattle.laws.specs.defs.declared.event.Event.{Event}
use Rattle.laws.specs.records.Record.{EachEntry, Past, Test}
use Rattle.laws.specs.words.declared.config.Config.{Config}
use Rattle.law_linear.specs.Order.{HasOrder}
use Rattle.law_linear.specs.Points.{IsLinearizable}

-- the call tells nothing of map and queue, or asks for what it tells
abbrev pub asks_for : (buckets : ℕ) → Option Call → Event → Bool
asks_for n (Some (calls.Put key value)) (events.Put b version told new) = b == key % n && (told == key && new == value)
asks_for n (Some (calls.PutIf key value wanted)) (events.Put b version told new) = (b == key % n && version == wanted + 1) && (told == key && new == value)
asks_for n call (events.Put b version told new) = false
asks_for n (Some (calls.Remove key)) (events.Removed b version told) = b == key % n && told == key
asks_for n call (events.Removed b version told) = false
asks_for n (Some (calls.Enqueue value)) (events.Queued number new) = new == value
asks_for n call (events.Queued number new) = false
asks_for n (Some calls.Dequeue) (events.Taken number value) = true
asks_for n call (events.Taken number value) = false
asks_for n (Some (calls.Get key)) (events.Got b version told value) = b == key % n && told == key
asks_for n call (events.Got b version told value) = false
asks_for n call event = true

-- it is of map or queue
abbrev pub is_of_object : Event → Bool
is_of_object (events.Put b version key value) = true
is_of_object (events.Removed b version key) = true
is_of_object (events.Queued number value) = true
is_of_object (events.Taken number value) = true
is_of_object (events.Got b version key value) = true
is_of_object event = false

abbrev pub is_none : List Event → Bool
is_none [] = true
is_none (event ∷ told) = false

-- a change of the map or of the queue, and what a get has found, is told only in a call for it, and that has told none before
abbrev pub tells_ok : (buckets : ℕ) → Test
tells_ok n p i event = if is_of_object event then is_none (told_of i p) && asks_for n (began_of i p) event else true

pub record LinearLaw (c : Config) (r : Past) : Type 0 where
  -- a change is told only in a call for it, first, and once
  pub told : EachEntry (tells_ok c.buckets) r
  -- each call takes effect at a point between its Begin and its End, where the object may answer as it does
  pub points : IsLinearizable c r
  -- in one order, each with its answer; what had ended where another had not begun comes before it
  pub order : HasOrder c r
