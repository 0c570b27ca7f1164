-- Which index word an event speaks of.
use Rattle.std.specs.Prelude.{ℕ, Bool, false, Option, None, Some, ◌==◌, ◌&&◌, ◌≡◌}
use Rattle.laws.specs.defs.declared.event.Event.{Event}
use Rattle.laws.specs.defs.declared.event.Event.TheVariants as events
use Rattle.laws.specs.defs.declared.event.Guard.TheVariants.{Index}
use Rattle.laws.specs.defs.declared.lifetime.Interval.{Interval}
use Rattle.laws.specs.records.Record.{Past}
use Rattle.laws.specs.StateAt.{value_of}
use Rattle.wfe_check_calls.specs.declared.word.Place.{Place}

-- the index word that an event of a seat publishes, or at which it finds a protection ended or a copy made
abbrev pub named_place : (seat : ℕ) → Event → Option Place
named_place seat (events.Reserve (Index other index) span) = Some (record { seat = other; index = index })
named_place seat (events.Hazard (Index other index) slot) = Some (record { seat = other; index = index })
named_place seat (events.Held index slot steps) = Some (record { seat = seat; index = index })
named_place seat (events.Null index steps) = Some (record { seat = seat; index = index })
named_place seat (events.Copied from index slot) = Some (record { seat = seat; index = index })
named_place seat event = None

-- it is this one
abbrev pub is_place : (i j : ℕ) → Option Place → Bool
is_place i j None = false
is_place i j (Some place) = place.seat == i && place.index == j

-- the value is what the guard publishes that is told to be published
abbrev pub IsNamed : Event → Option Interval → Past → Type 0
IsNamed (events.Reserve guard span) value p = value ≡ value_of guard p
IsNamed event value p = Unit {0}
