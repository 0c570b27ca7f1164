-- Tests of what kind an event is.
use Rattle.std.specs.Prelude.{Bool, false, ℕ, ◌==◌, ◌&&◌, true}
use Rattle.wfe_defs.specs.declared.event.Event.{Event}
use Rattle.wfe_defs.specs.declared.event.Event.TheVariants as events

-- a protection at the index found a null link
abbrev pub is_null : ℕ → Event → Bool
is_null j (events.Null index steps) = index == j
is_null j event = false

-- the row is told to stand at the index
abbrev pub is_held : ℕ → ℕ → Event → Bool
is_held j s (events.Held index slot steps) = (index == j) && (slot == s)
is_held j s event = false

-- a row is given, unused, retired or back
abbrev pub is_of_rows : Event → Bool
is_of_rows (events.Give slot birth) = true
is_of_rows (events.Unused slot) = true
is_of_rows (events.Retire slot birth retire) = true
is_of_rows (events.Back slot) = true
is_of_rows event = false
