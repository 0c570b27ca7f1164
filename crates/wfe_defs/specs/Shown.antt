-- What a guard publishes, as reclamation needs it: which lives it keeps.
use Rattle.std.specs.Prelude.{Bool, false, List, [], ◌∷◌, Option, Some, None, ℕ, ◌==◌, ◌||◌}
use Rattle.wfe_defs.specs.Meets.{meets}
use Rattle.wfe_defs.specs.declared.event.Event.{Event}
use Rattle.wfe_defs.specs.declared.event.Event.TheVariants as events
use Rattle.wfe_defs.specs.declared.event.Guard.{Guard}
use Rattle.wfe_defs.specs.declared.lifetime.Interval.{Interval}
use Rattle.wfe_defs.specs.declared.lifetime.Lifetime.{Lifetime}
use Rattle.wfe_defs.specs.declared.shown.Shown.{Shown}
use Rattle.wfe_defs.specs.declared.shown.Shown.TheVariants.{Nothing, Eras, Row}

-- whether it keeps a life: nothing keeps none, eras keep the lives that meet them, and a row keeps its own
abbrev pub keeps : Lifetime → Shown → Bool
keeps life Nothing = false
keeps life (Eras span) = meets life span
keeps life (Row slot) = life.slot == slot

-- an interval, or none, as what a guard publishes
abbrev pub shown : Option Interval → Shown
shown None = Nothing
shown (Some span) = Eras span

-- the interval that is published
abbrev pub eras_of : Shown → Option Interval
eras_of Nothing = None
eras_of (Eras span) = Some span
eras_of (Row slot) = None

-- a row, or none, as what a guard publishes
abbrev pub shown_row : Option ℕ → Shown
shown_row None = Nothing
shown_row (Some slot) = Row slot

-- the row that is published
abbrev pub row_of : Shown → Option ℕ
row_of Nothing = None
row_of (Eras span) = None
row_of (Row slot) = Some slot

-- what an event says that a guard publishes from now on
abbrev pub told_value : Event → Option (Guard × Shown)
told_value (events.Reserve guard span) = Some (guard, shown span)
told_value (events.Hazard guard slot) = Some (guard, shown_row slot)
told_value event = None

-- what an event says that a scan read of a guard
abbrev pub seen_value : Event → Option (Guard × Shown)
seen_value (events.Read guard span) = Some (guard, shown span)
seen_value (events.Saw guard slot) = Some (guard, shown_row slot)
seen_value event = None

-- a guard that a scan read, and what it published
abbrev pub Seen : Type 0
Seen = Guard × Shown

-- something that was read keeps the life
abbrev pub keeps_any : Lifetime → List Seen → Bool
keeps_any life [] = false
keeps_any life (seen ∷ read) = keeps life seen.1 || keeps_any life read
