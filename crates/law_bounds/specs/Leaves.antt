-- How many steps a leave takes: one for each row that it lets go of, and one. Under 2GE one step lets go of all.
use Rattle.std.specs.Prelude.{Bool, List, None, Option, Some, false, if◌then◌else◌, nat_le, true, ℕ, ◌+◌, ◌==◌, ◌≡◌}
use Rattle.law_held.specs.inv.history.History.{Item, record_of}
use Rattle.law_held.specs.inv.history.Record.{EachEntry, Past, Test, begins, own, told_since}
use Rattle.law_held.specs.inv.model.defs.declared.call.Call.{Call}
use Rattle.law_held.specs.inv.model.defs.declared.call.Call.TheVariants as calls
use Rattle.law_held.specs.inv.model.defs.declared.event.Event.{Event}
use Rattle.law_held.specs.inv.model.defs.declared.event.Event.TheVariants as events
use Rattle.law_held.specs.inv.model.words.Place.{is_valid}
use Rattle.law_held.specs.inv.model.words.Schemes.{has_one_interval}
use Rattle.law_held.specs.inv.model.words.declared.config.Config.{Config}
use Rattle.law_held.specs.inv.model.words.declared.layout.Layout.{Layout}
use Rattle.law_held.specs.laws.StateAt.{began_of}

-- a row is let go
abbrev pub is_clear : Event → Bool
is_clear (events.Clear index slot) = true
is_clear event = false

-- how many rows the call of seat i has let go of
abbrev pub clears_since : ℕ → Past → ℕ
clears_since i p = told_since (begins i) (own i is_clear) p

-- so many steps the call takes of seat i, if it leaves by it
abbrev pub right_in : Config → ℕ → Past → Call → (steps : ℕ) → Bool
right_in config i p calls.Leave steps = if has_one_interval config.scheme then nat_le steps 2 else steps == clears_since i p + 1
right_in config i p call steps = true

abbrev pub right_since : Config → ℕ → Past → Option Call → (steps : ℕ) → Bool
right_since config i p None steps = true
right_since config i p (Some call) steps = right_in config i p call steps

-- so it is where a leave ends
abbrev pub leaves_ok : Config → Test
leaves_ok config p i (events.End steps answer) = right_since config i p (began_of i p) steps
leaves_ok config p i event = true

-- each history keeps it, under each scheme
abbrev pub LeavesEnd : Type 0
LeavesEnd = (layout : Layout) (items : List Item) → is_valid layout ≡ true → EachEntry (leaves_ok layout.config) (record_of layout items)
