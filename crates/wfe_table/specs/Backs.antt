-- A row that went back in the last call of a seat, by the record of the seat's past.
use Rattle.std.specs.Prelude.{ℕ, Bool, false, true, List, ◌==◌, ◌&&◌, ◌≡◌, ◌≤◌}
use Rattle.std.specs.List.{list_any}
use Rattle.wfe_core.specs.defs.Entry.{Entry}
use Rattle.wfe_core.specs.defs.declared.event.Event.{Event}
use Rattle.wfe_core.specs.defs.declared.event.Event.TheVariants as events
use Rattle.wfe_core.specs.words.declared.config.Config.{Config}
use Rattle.laws.specs.Lists.{has_slot, list_of}
use Rattle.laws.specs.StateAt.{is_row, stood_at, taken_at}
use Rattle.wfe_drive_rule.specs.history.Record.{Past, tells}
use Rattle.wfe_drive_rule.specs.history.Record.Past.{Then}

abbrev pub is_begin : Event → Bool
is_begin (events.Begin call) = true
is_begin event = false

-- the seat begins a call
abbrev pub begins_call : ℕ → Entry → Bool
begins_call seat x = is_begin x.event && seat == x.seat

pub record WentBack (config : Config) (seat : ℕ) (r : Past) (slot : ℕ) : Type 0 where
  -- the seat told here that the slot is free again, and has begun no call since
  pub at : Past
  pub later : List Entry
  pub cut : r ≡ tells (Then at seat (events.Back slot)) later
  pub last : list_any (begins_call seat) later ≡ false
  -- it is one of the table's, was taken until then, and on the seat's list
  pub within : slot ≤ config.slots
  pub taken : taken_at config.slots slot at ≡ true
  pub listed : has_slot slot (list_of seat at) ≡ true
  -- it stood at no index of any seat
  pub bare : (k j : ℕ) → is_row slot (stood_at k j at) ≡ false
