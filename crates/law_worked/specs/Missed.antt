-- A get of an empty bucket under Wait-Free Eras, whose only try fails.
use Rattle.std.specs.Prelude.{List, [], ◌∷◌, None}
use Rattle.wfe_core.specs.words.declared.layout.Layout.{Layout}
use Rattle.wfe_core.specs.words.declared.config.SchemeKind.TheVariants.{Wfe}
use Rattle.wfe_core.specs.defs.Entry.{Entry}
use Rattle.wfe_core.specs.defs.declared.call.Answer.TheVariants as answers
use Rattle.wfe_core.specs.defs.declared.call.Call.TheVariants as calls
use Rattle.wfe_core.specs.defs.declared.call.ClockMove.TheVariants as moves
use Rattle.wfe_core.specs.defs.declared.event.Event.TheVariants as events
use Rattle.wfe_core.specs.defs.declared.event.Guard.TheVariants as guards
use Rattle.wfe_core.specs.Guards.{from_to}
use Rattle.model_history.specs.Among.{said, setting}

abbrev pub missed_setting : Layout
missed_setting = setting Wfe 2 8 1 100 100 100

abbrev pub missed : List Entry
missed =
    said 0 (events.Begin (calls.Get 7))
    ∷ said 0 (events.Reserve (guards.Index 0 0) (from_to 1 1))
    ∷ said 1 (events.Begin calls.Advance)
    ∷ said 1 (events.Era 2)
    ∷ said 1 (events.End 4 (answers.Clock (moves.Moved 2)))
    ∷ said 0 (events.Reserve (guards.Index 0 0) (from_to 2 2))
    ∷ said 0 (events.Reserve (guards.Helper 0) (from_to 2 2))
    ∷ said 0 (events.Reserve (guards.Index 0 0) (from_to 2 2))
    ∷ said 0 (events.Null 0 12)
    ∷ said 0 (events.Reserve (guards.Helper 0) None)
    ∷ said 0 (events.Got 0 0 7 None)
    ∷ said 0 (events.Reserve (guards.Index 0 0) None)
    ∷ said 0 (events.End 15 (answers.Got 0 None)) ∷ []
