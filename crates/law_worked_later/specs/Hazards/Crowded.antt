-- A put finds no free row, and a later one does after its scan.
use Rattle.std.specs.Prelude.{List, [], ◌∷◌, ◌++◌, Some, None}
use Rattle.wfe_core.specs.words.declared.layout.Layout.{Layout}
use Rattle.wfe_core.specs.defs.Entry.{Entry}
use Rattle.wfe_core.specs.defs.declared.call.Answer.TheVariants as answers
use Rattle.wfe_core.specs.defs.declared.call.Call.TheVariants as calls
use Rattle.wfe_core.specs.defs.declared.call.ClockMove.TheVariants as moves
use Rattle.wfe_core.specs.defs.declared.event.Event.TheVariants as events
use Rattle.wfe_core.specs.defs.declared.event.Guard.TheVariants as guards
use Rattle.wfe_core.specs.defs.declared.event.Root.TheVariants as roots
use Rattle.model_history.specs.History.{Item}
use Rattle.model_history.specs.Among.{call, said, to_end}
use Rattle.law_worked_later.specs.Hazards.Taken.{IsTaken}
use Rattle.law_worked_later.specs.Hazards.Settings.{table}

abbrev pub crowded_setting : Layout
crowded_setting = table 2 3 2 1 100

abbrev pub crowded_items : List Item
crowded_items = call 0 (calls.Put 7 70) ++ to_end 0 ++ call 1 (calls.Hold 7) ++ to_end 1 ++ call 0 (calls.Put 7 71) ++ to_end 0 ++ call 0 (calls.Put 7 72) ++ to_end 0 ++ call 1 calls.Release ++ to_end 1 ++ call 0 (calls.Put 7 72) ++ to_end 0

abbrev pub crowded : List Entry
crowded =
    said 0 (events.Begin (calls.Put 7 70))
    ∷ said 0 (events.Null 0 1)
    ∷ said 0 (events.Give 0 1)
    ∷ said 0 (events.Link (roots.Bucket 0) 0)
    ∷ said 0 (events.Put 0 1 7 70)
    ∷ said 0 (events.Hazard (guards.Index 0 0) None)
    ∷ said 0 (events.End 10 (answers.Done 1 moves.Still))
    ∷ said 1 (events.Begin (calls.Hold 7))
    ∷ said 1 (events.Hazard (guards.Index 1 2) (Some 0))
    ∷ said 1 (events.Held 2 0 3)
    ∷ said 1 (events.End 3 (answers.Holding 0))
    ∷ said 0 (events.Begin (calls.Put 7 71))
    ∷ said 0 (events.Hazard (guards.Index 0 0) (Some 0))
    ∷ said 0 (events.Held 0 0 3)
    ∷ said 0 (events.Give 1 1)
    ∷ said 0 (events.Link (roots.Bucket 0) 1)
    ∷ said 0 (events.Cut 0)
    ∷ said 0 (events.Put 0 2 7 71)
    ∷ said 0 (events.Clear 0 0)
    ∷ said 0 (events.Hazard (guards.Index 0 0) None)
    ∷ said 0 (events.Retire 0 1 1)
    ∷ said 0 (events.Saw (guards.Index 0 0) None)
    ∷ said 0 (events.Saw (guards.Index 0 1) None)
    ∷ said 0 (events.Saw (guards.Index 0 2) None)
    ∷ said 0 (events.Saw (guards.Index 1 0) None)
    ∷ said 0 (events.Saw (guards.Index 1 1) None)
    ∷ said 0 (events.Saw (guards.Index 1 2) (Some 0))
    ∷ said 0 (events.End 25 (answers.Done 2 moves.Still))
    ∷ said 0 (events.Begin (calls.Put 7 72))
    ∷ said 0 (events.Hazard (guards.Index 0 0) (Some 1))
    ∷ said 0 (events.Held 0 1 3)
    ∷ said 0 (events.Clear 0 1)
    ∷ said 0 (events.Hazard (guards.Index 0 0) None)
    ∷ said 0 (events.Saw (guards.Index 0 0) None)
    ∷ said 0 (events.Saw (guards.Index 0 1) None)
    ∷ said 0 (events.Saw (guards.Index 0 2) None)
    ∷ said 0 (events.Saw (guards.Index 1 0) None)
    ∷ said 0 (events.Saw (guards.Index 1 1) None)
    ∷ said 0 (events.Saw (guards.Index 1 2) (Some 0))
    ∷ said 0 (events.Hazard (guards.Index 0 0) (Some 1))
    ∷ said 0 (events.Held 0 1 3)
    ∷ said 0 (events.Clear 0 1)
    ∷ said 0 (events.Hazard (guards.Index 0 0) None)
    ∷ said 0 (events.End 26 answers.Full)
    ∷ said 1 (events.Begin calls.Release)
    ∷ said 1 (events.Clear 2 0)
    ∷ said 1 (events.Hazard (guards.Index 1 2) None)
    ∷ said 1 (events.End 1 answers.Released)
    ∷ said 0 (events.Begin (calls.Put 7 72))
    ∷ said 0 (events.Hazard (guards.Index 0 0) (Some 1))
    ∷ said 0 (events.Held 0 1 3)
    ∷ said 0 (events.Clear 0 1)
    ∷ said 0 (events.Hazard (guards.Index 0 0) None)
    ∷ said 0 (events.Saw (guards.Index 0 0) None)
    ∷ said 0 (events.Saw (guards.Index 0 1) None)
    ∷ said 0 (events.Saw (guards.Index 0 2) None)
    ∷ said 0 (events.Saw (guards.Index 1 0) None)
    ∷ said 0 (events.Saw (guards.Index 1 1) None)
    ∷ said 0 (events.Saw (guards.Index 1 2) None)
    ∷ said 0 (events.Back 0)
    ∷ said 0 (events.Hazard (guards.Index 0 0) (Some 1))
    ∷ said 0 (events.Held 0 1 3)
    ∷ said 0 (events.Give 0 1)
    ∷ said 0 (events.Link (roots.Bucket 0) 0)
    ∷ said 0 (events.Cut 1)
    ∷ said 0 (events.Put 0 3 7 72)
    ∷ said 0 (events.Clear 0 1)
    ∷ said 0 (events.Hazard (guards.Index 0 0) None)
    ∷ said 0 (events.Retire 1 1 1)
    ∷ said 0 (events.Saw (guards.Index 0 0) None)
    ∷ said 0 (events.Saw (guards.Index 0 1) None)
    ∷ said 0 (events.Saw (guards.Index 0 2) None)
    ∷ said 0 (events.Saw (guards.Index 1 0) None)
    ∷ said 0 (events.Saw (guards.Index 1 1) None)
    ∷ said 0 (events.Saw (guards.Index 1 2) None)
    ∷ said 0 (events.Back 1)
    ∷ said 0 (events.End 44 (answers.Done 3 moves.Still)) ∷ []

abbrev pub CrowdedTaken : Type 0
CrowdedTaken = IsTaken crowded_setting crowded_items crowded
