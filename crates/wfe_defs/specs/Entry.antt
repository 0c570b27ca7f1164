-- An entry of a record.
use Rattle.std.specs.Prelude.{ℕ}
use Rattle.wfe_defs.specs.declared.event.Event.{Event}

-- what a seat tells
pub record Entry : Type 0 where
  pub seat : ℕ
  pub event : Event

abbrev pub entry : ℕ → Event → Entry
entry seat event = record { seat = seat; event = event }
