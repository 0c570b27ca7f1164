-- What stands at the indexes of a seat by what its steps tell.
use Rattle.std.specs.Prelude.{ℕ, ◌==◌, ◌&&◌, Bool, false, if◌then◌else◌, List, [], ◌∷◌, Option, Some, None}
use Rattle.inv_rows.specs.defs.declared.event.Event.{Event}
use Rattle.inv_rows.specs.defs.declared.event.Event.TheVariants as events

-- the row is told to stand at the index no more
abbrev pub is_clear : ℕ → ℕ → Event → Bool
is_clear j s (events.Clear index slot) = (index == j) && (slot == s)
is_clear j s event = false

-- the row is told to stand at index j from here on, as it does at index f
abbrev pub is_copied : (f j s : ℕ) → Event → Bool
is_copied f j s (events.Copied from index slot) = (from == f) && ((index == j) && (slot == s))
is_copied f j s event = false

-- what stands at an index after an event, and after all that is told
abbrev pub stood_by : Event → Option ℕ → ℕ → Option ℕ
stood_by (events.Held index slot steps) x j = if index == j then Some slot else x
stood_by (events.Copied from index slot) x j = if index == j then Some slot else x
stood_by (events.Clear index slot) x j = if index == j then None else x
stood_by event x j = x

abbrev pub stood : List Event → Option ℕ → ℕ → Option ℕ
stood [] x j = x
stood (event ∷ told) x j = stood told (stood_by event x j) j
