-- A row that is held is copied twice to a higher index, and kept by that; and a value is queued and taken.
use Rattle.std.specs.Prelude.{List, [], ◌∷◌, ◌++◌, Some, None}
use Rattle.wfe_core.specs.words.declared.layout.Layout.{Layout}
use Rattle.wfe_core.specs.defs.Entry.{Entry}
use Rattle.wfe_core.specs.defs.declared.call.Answer.TheVariants as answers
use Rattle.wfe_core.specs.defs.declared.call.Call.TheVariants as calls
use Rattle.wfe_core.specs.defs.declared.call.ClockMove.TheVariants as moves
use Rattle.wfe_core.specs.defs.declared.event.Event.TheVariants as events
use Rattle.wfe_core.specs.defs.declared.event.Guard.TheVariants as guards
use Rattle.wfe_core.specs.defs.declared.event.Root.TheVariants as roots
use Rattle.model_history.specs.History.{Item}
use Rattle.model_history.specs.Among.{call, said, to_end}
use Rattle.law_worked_later.specs.Hazards.Taken.{IsTaken}
use Rattle.law_worked_later.specs.Hazards.Settings.{table}

abbrev pub followed_setting : Layout
followed_setting = table 2 4 8 100 100

abbrev pub followed_items : List Item
followed_items = call 0 (calls.Put 7 70) ++ to_end 0 ++ call 1 (calls.Hold 7) ++ to_end 1 ++ call 1 (calls.Copy 2 3) ++ to_end 1 ++ call 1 (calls.Copy 2 3) ++ to_end 1 ++ call 1 calls.Release ++ to_end 1 ++ call 0 (calls.Put 7 71) ++ to_end 0 ++ call 0 calls.Scan ++ to_end 0 ++ call 1 (calls.Look 3 7) ++ to_end 1 ++ call 1 (calls.DropIndex 3) ++ to_end 1 ++ call 0 (calls.Enqueue 5) ++ to_end 0 ++ call 1 calls.Dequeue ++ to_end 1 ++ call 0 calls.Scan ++ to_end 0

abbrev pub followed : List Entry
followed =
    said 0 (events.Begin (calls.Put 7 70))
    ∷ said 0 (events.Null 0 1)
    ∷ said 0 (events.Give 0 1)
    ∷ said 0 (events.Link (roots.Bucket 0) 0)
    ∷ said 0 (events.Put 0 1 7 70)
    ∷ said 0 (events.Hazard (guards.Index 0 0) None)
    ∷ said 0 (events.End 10 (answers.Done 1 moves.Still))
    ∷ said 1 (events.Begin (calls.Hold 7))
    ∷ said 1 (events.Hazard (guards.Index 1 2) (Some 0))
    ∷ said 1 (events.Held 2 0 3)
    ∷ said 1 (events.End 3 (answers.Holding 0))
    ∷ said 1 (events.Begin (calls.Copy 2 3))
    ∷ said 1 (events.Hazard (guards.Index 1 3) (Some 0))
    ∷ said 1 (events.Copied 2 3 0)
    ∷ said 1 (events.End 2 (answers.Copied 0))
    ∷ said 1 (events.Begin (calls.Copy 2 3))
    ∷ said 1 (events.Clear 3 0)
    ∷ said 1 (events.Hazard (guards.Index 1 3) (Some 0))
    ∷ said 1 (events.Copied 2 3 0)
    ∷ said 1 (events.End 2 (answers.Copied 0))
    ∷ said 1 (events.Begin calls.Release)
    ∷ said 1 (events.Clear 2 0)
    ∷ said 1 (events.Hazard (guards.Index 1 2) None)
    ∷ said 1 (events.End 1 answers.Released)
    ∷ said 0 (events.Begin (calls.Put 7 71))
    ∷ said 0 (events.Hazard (guards.Index 0 0) (Some 0))
    ∷ said 0 (events.Held 0 0 3)
    ∷ said 0 (events.Give 1 1)
    ∷ said 0 (events.Link (roots.Bucket 0) 1)
    ∷ said 0 (events.Cut 0)
    ∷ said 0 (events.Put 0 2 7 71)
    ∷ said 0 (events.Clear 0 0)
    ∷ said 0 (events.Hazard (guards.Index 0 0) None)
    ∷ said 0 (events.Retire 0 1 1)
    ∷ said 0 (events.End 19 (answers.Done 2 moves.Still))
    ∷ said 0 (events.Begin calls.Scan)
    ∷ said 0 (events.Saw (guards.Index 0 0) None)
    ∷ said 0 (events.Saw (guards.Index 0 1) None)
    ∷ said 0 (events.Saw (guards.Index 0 2) None)
    ∷ said 0 (events.Saw (guards.Index 0 3) None)
    ∷ said 0 (events.Saw (guards.Index 1 0) None)
    ∷ said 0 (events.Saw (guards.Index 1 1) None)
    ∷ said 0 (events.Saw (guards.Index 1 2) None)
    ∷ said 0 (events.Saw (guards.Index 1 3) (Some 0))
    ∷ said 0 (events.End 8 (answers.Scanned 1 0))
    ∷ said 1 (events.Begin (calls.Look 3 7))
    ∷ said 1 (events.End 4 (answers.Looked 0 1 (Some 70)))
    ∷ said 1 (events.Begin (calls.DropIndex 3))
    ∷ said 1 (events.Clear 3 0)
    ∷ said 1 (events.Hazard (guards.Index 1 3) None)
    ∷ said 1 (events.End 1 answers.Dropped)
    ∷ said 0 (events.Begin (calls.Enqueue 5))
    ∷ said 0 (events.Hazard (guards.Index 0 0) (Some 8))
    ∷ said 0 (events.Held 0 8 3)
    ∷ said 0 (events.Give 2 1)
    ∷ said 0 (events.Link (roots.Next 8) 2)
    ∷ said 0 (events.Queued 1 5)
    ∷ said 0 (events.Link roots.Tail 2)
    ∷ said 0 (events.Clear 0 8)
    ∷ said 0 (events.Hazard (guards.Index 0 0) None)
    ∷ said 0 (events.End 14 (answers.Queued 1))
    ∷ said 1 (events.Begin calls.Dequeue)
    ∷ said 1 (events.Hazard (guards.Index 1 0) (Some 8))
    ∷ said 1 (events.Held 0 8 3)
    ∷ said 1 (events.Hazard (guards.Index 1 1) (Some 2))
    ∷ said 1 (events.Held 1 2 4)
    ∷ said 1 (events.Link roots.Head 2)
    ∷ said 1 (events.Cut 8)
    ∷ said 1 (events.Taken 1 5)
    ∷ said 1 (events.Clear 1 2)
    ∷ said 1 (events.Hazard (guards.Index 1 1) None)
    ∷ said 1 (events.Clear 0 8)
    ∷ said 1 (events.Hazard (guards.Index 1 0) None)
    ∷ said 1 (events.Retire 8 1 1)
    ∷ said 1 (events.End 16 (answers.Taken 1 5 moves.Still))
    ∷ said 0 (events.Begin calls.Scan)
    ∷ said 0 (events.Saw (guards.Index 0 0) None)
    ∷ said 0 (events.Saw (guards.Index 0 1) None)
    ∷ said 0 (events.Saw (guards.Index 0 2) None)
    ∷ said 0 (events.Saw (guards.Index 0 3) None)
    ∷ said 0 (events.Saw (guards.Index 1 0) None)
    ∷ said 0 (events.Saw (guards.Index 1 1) None)
    ∷ said 0 (events.Saw (guards.Index 1 2) None)
    ∷ said 0 (events.Saw (guards.Index 1 3) None)
    ∷ said 0 (events.Back 0)
    ∷ said 0 (events.End 9 (answers.Scanned 0 1)) ∷ []

abbrev pub FollowedTaken : Type 0
FollowedTaken = IsTaken followed_setting followed_items followed
