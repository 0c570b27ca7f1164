-- A put of a key, and a get of it: the record, and what the laws refuse of it once a line is changed.
use Rattle.std.specs.Prelude.{List, [], ◌∷◌, ◌++◌, Some, None}
use Rattle.wfe_core.specs.words.declared.layout.Layout.{Layout}
use Rattle.wfe_core.specs.defs.Entry.{Entry}
use Rattle.wfe_core.specs.defs.declared.call.Answer.TheVariants as answers
use Rattle.wfe_core.specs.defs.declared.call.Call.TheVariants as calls
use Rattle.wfe_core.specs.defs.declared.call.ClockMove.TheVariants as moves
use Rattle.wfe_core.specs.defs.declared.event.Event.TheVariants as events
use Rattle.wfe_core.specs.defs.declared.event.Guard.TheVariants as guards
use Rattle.wfe_core.specs.defs.declared.event.Root.TheVariants as roots
use Rattle.model_history.specs.History.{Item}
use Rattle.model_history.specs.Among.{call, said, to_end}
use Rattle.law_worked.specs.Judges.Law.{Calls, Clears, Indexes, Copies, Reuse, Free, Placing, Order, Nexts, Retiring, Backs, Lists, Blocks, Reads, Due, Room, Eras, Moves, Advances, Births, Retires, Current, Single, Rising, Guards, Kinds, Throughout, Sources, Finds, Gots, Links, Behind, Bare, Rests, Map, Values, Emptied, Steps, Withdrawals, Tries, Raises, Hazards, Asks, CallSteps, Told, Reasons, Full, Lacks, Counted, Refusals, Clock, Repeats, Alone, Named, Ranges}
use Rattle.law_worked.specs.Refusals.{IsWorked, Row, row}
use Rattle.law_worked_later.specs.Hazards.Settings.{table}

abbrev pub put_then_get_setting : Layout
put_then_get_setting = table 1 3 8 1 100

abbrev pub put_then_get_items : List Item
put_then_get_items = call 0 (calls.Put 7 70) ++ to_end 0 ++ call 0 (calls.Get 7) ++ to_end 0

abbrev pub put_then_get : List Entry
put_then_get =
    said 0 (events.Begin (calls.Put 7 70))
    ∷ said 0 (events.Null 0 1)
    ∷ said 0 (events.Give 0 1)
    ∷ said 0 (events.Link (roots.Bucket 0) 0)
    ∷ said 0 (events.Put 0 1 7 70)
    ∷ said 0 (events.Hazard (guards.Index 0 0) None)
    ∷ said 0 (events.End 10 (answers.Done 1 moves.Still))
    ∷ said 0 (events.Begin (calls.Get 7))
    ∷ said 0 (events.Hazard (guards.Index 0 0) (Some 0))
    ∷ said 0 (events.Held 0 0 3)
    ∷ said 0 (events.Got 0 1 7 (Some 70))
    ∷ said 0 (events.Clear 0 0)
    ∷ said 0 (events.Hazard (guards.Index 0 0) None)
    ∷ said 0 (events.End 8 (answers.Got 1 (Some 70))) ∷ []

-- of each law the places at which it refuses a line that is dropped, told twice, told after the next one, altered, or slowed
abbrev pub put_then_get_table : List Row
put_then_get_table =
    row Calls (0 ∷ 6 ∷ 7 ∷ []) (0 ∷ 6 ∷ 7 ∷ 13 ∷ []) (0 ∷ 5 ∷ 6 ∷ 7 ∷ 12 ∷ []) [] []
    ∷ row Clears (9 ∷ []) (11 ∷ []) [] (9 ∷ 11 ∷ []) []
    ∷ row Indexes [] [] [] [] []
    ∷ row Copies [] [] [] [] []
    ∷ row Reuse [] [] [] (1 ∷ []) []
    ∷ row Free [] (2 ∷ []) [] [] []
    ∷ row Placing (2 ∷ 3 ∷ []) (2 ∷ 3 ∷ []) (2 ∷ []) (2 ∷ 3 ∷ []) []
    ∷ row Order (3 ∷ 4 ∷ []) (3 ∷ 4 ∷ []) (2 ∷ 3 ∷ 4 ∷ []) [] []
    ∷ row Nexts [] [] [] [] []
    ∷ row Retiring [] [] [] [] []
    ∷ row Backs [] [] [] [] []
    ∷ row Lists [] [] [] [] []
    ∷ row Blocks [] [] [] [] []
    ∷ row Reads [] [] [] [] []
    ∷ row Due [] [] [] [] []
    ∷ row Room [] [] [] [] []
    ∷ row Eras [] [] [] [] []
    ∷ row Moves [] [] [] [] []
    ∷ row Advances [] [] [] [] []
    ∷ row Births [] [] [] [] []
    ∷ row Retires [] [] [] [] []
    ∷ row Current [] [] [] [] []
    ∷ row Single [] [] [] [] []
    ∷ row Rising [] [] [] [] []
    ∷ row Guards [] [] [] [] []
    ∷ row Kinds [] [] [] [] []
    ∷ row Throughout (2 ∷ 8 ∷ 11 ∷ []) [] (8 ∷ 11 ∷ []) (1 ∷ 2 ∷ 8 ∷ 9 ∷ 11 ∷ []) []
    ∷ row Sources (0 ∷ 3 ∷ []) [] (0 ∷ []) (1 ∷ 3 ∷ 9 ∷ []) []
    ∷ row Finds (1 ∷ 9 ∷ []) [] (0 ∷ 6 ∷ []) [] []
    ∷ row Gots (3 ∷ 4 ∷ 9 ∷ []) [] (3 ∷ 9 ∷ 10 ∷ []) (3 ∷ 9 ∷ 10 ∷ []) []
    ∷ row Links [] (3 ∷ []) [] [] []
    ∷ row Behind [] [] [] [] []
    ∷ row Bare (11 ∷ []) [] [] (1 ∷ 9 ∷ 11 ∷ []) []
    ∷ row Rests (12 ∷ []) [] (12 ∷ []) (5 ∷ 12 ∷ []) []
    ∷ row Map (4 ∷ []) (4 ∷ []) [] (4 ∷ 10 ∷ []) []
    ∷ row Values [] [] [] [] []
    ∷ row Emptied [] [] [] [] []
    ∷ row Steps [] [] [] [] []
    ∷ row Withdrawals [] [] [] [] []
    ∷ row Tries [] [] [] [] []
    ∷ row Raises [] [] [] [] []
    ∷ row Hazards (8 ∷ []) (8 ∷ []) (8 ∷ []) (5 ∷ []) (1 ∷ 9 ∷ [])
    ∷ row Asks [] [] [] [] []
    ∷ row CallSteps [] [] [] [] []
    ∷ row Told (0 ∷ 4 ∷ 7 ∷ 10 ∷ []) (4 ∷ 10 ∷ []) (6 ∷ []) (0 ∷ 4 ∷ 7 ∷ 10 ∷ 13 ∷ []) []
    ∷ row Reasons [] [] [] [] []
    ∷ row Full [] [] [] [] []
    ∷ row Lacks [] [] [] [] []
    ∷ row Counted [] [] [] [] []
    ∷ row Refusals [] [] [] [] []
    ∷ row Clock [] [] [] (6 ∷ []) []
    ∷ row Repeats [] (9 ∷ []) [] [] []
    ∷ row Alone [] (9 ∷ []) [] (1 ∷ []) []
    ∷ row Named [] [] [] [] []
    ∷ row Ranges [] [] [] [] [] ∷ []

abbrev pub PutThenGetWorked : Type 0
PutThenGetWorked = IsWorked put_then_get_setting put_then_get_items put_then_get put_then_get_table
