-- No row is used again while it stands.
use Rattle.std.specs.Prelude.{not, ℕ, ◌&&◌, Bool, false, ◌==◌}
use Rattle.model_record.specs.Record.{Test, EachEntry, Past}
use Rattle.model_record.specs.defs.declared.event.Event.{Event}
use Rattle.model_record.specs.defs.declared.event.Event.TheVariants as events
use Rattle.laws.specs.StateAt.{stands}

-- the row is given, or is free again
abbrev pub is_reuse : ℕ → Event → Bool
is_reuse s (events.Give slot birth) = s == slot
is_reuse s (events.Unused slot) = s == slot
is_reuse s (events.Back slot) = s == slot
is_reuse s event = false

-- the entry does not reuse row s, or the row does not stand at index j of seat k
abbrev pub reuse_ok : (k j s : ℕ) → Test
reuse_ok k j s p i event = not (stands k j s p && is_reuse s event)

-- A row stands at an index of a seat from the Held that tells so to the Clear. While it does, it is not used again.
pub record NoReuse (r : Past) : Type 0 where
  -- no entry gives a row, or says that it is unused or back, while it stands at an index of a seat
  pub reuse : (k j s : ℕ) → EachEntry (reuse_ok k j s) r
