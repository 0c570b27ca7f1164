-- A record in which a seat holds two rows at one index, clears one of them, and the other one goes back.
use Rattle.std.specs.Prelude.{List, [], ◌∷◌, None}
use Rattle.wfe_core.specs.words.declared.layout.Layout.{Layout}
use Rattle.wfe_core.specs.words.declared.config.SchemeKind.TheVariants.{Ibr}
use Rattle.wfe_core.specs.defs.Entry.{Entry}
use Rattle.wfe_core.specs.defs.declared.call.Answer.TheVariants as answers
use Rattle.wfe_core.specs.defs.declared.call.Call.TheVariants as calls
use Rattle.wfe_core.specs.defs.declared.call.ClockMove.TheVariants as moves
use Rattle.wfe_core.specs.defs.declared.event.Event.TheVariants as events
use Rattle.wfe_core.specs.defs.declared.event.Guard.TheVariants as guards
use Rattle.wfe_core.specs.defs.declared.event.Root.TheVariants as roots
use Rattle.wfe_core.specs.Guards.{from_to}
use Rattle.model_history.specs.Among.{said, setting}

abbrev pub twice_setting : Layout
twice_setting = setting Ibr 2 8 2 8 100 100

abbrev pub twice : List Entry
twice =
    said 0 (events.Begin (calls.Put 1 10))
    ∷ said 0 (events.Reserve (guards.Whole 0) (from_to 1 1))
    ∷ said 0 (events.Null 0 2)
    ∷ said 0 (events.Give 0 1)
    ∷ said 0 (events.Link (roots.Bucket 0) 0)
    ∷ said 0 (events.Put 0 1 1 10)
    ∷ said 0 (events.Reserve (guards.Whole 0) None)
    ∷ said 0 (events.End 13 (answers.Done 1 moves.Still))
    ∷ said 1 (events.Begin (calls.Put 1 11))
    ∷ said 1 (events.Reserve (guards.Whole 1) (from_to 1 1))
    ∷ said 1 (events.Held 0 0 2)
    ∷ said 1 (events.Give 1 1)
    ∷ said 0 (events.Begin (calls.Put 1 12))
    ∷ said 0 (events.Reserve (guards.Whole 0) (from_to 1 1))
    ∷ said 0 (events.Held 0 0 2)
    ∷ said 0 (events.Give 2 1)
    ∷ said 0 (events.Link (roots.Bucket 0) 2)
    ∷ said 0 (events.Cut 0)
    ∷ said 0 (events.Put 0 2 1 12)
    ∷ said 0 (events.Clear 0 0)
    ∷ said 0 (events.Reserve (guards.Whole 0) None)
    ∷ said 0 (events.Retire 0 1 1)
    ∷ said 0 (events.End 20 (answers.Done 2 moves.Still))
    ∷ said 1 (events.Held 0 2 2)
    ∷ said 1 (events.Link (roots.Bucket 0) 1)
    ∷ said 1 (events.Cut 2)
    ∷ said 1 (events.Put 0 3 1 11)
    ∷ said 1 (events.Clear 0 2)
    ∷ said 1 (events.Reserve (guards.Whole 1) None)
    ∷ said 1 (events.Retire 2 1 1)
    ∷ said 1 (events.End 24 (answers.Done 3 moves.Still))
    ∷ said 0 (events.Begin calls.Scan)
    ∷ said 0 (events.Read (guards.Whole 0) None)
    ∷ said 0 (events.Read (guards.Whole 1) None)
    ∷ said 0 (events.Back 0)
    ∷ said 0 (events.End 3 (answers.Scanned 0 1)) ∷ []
