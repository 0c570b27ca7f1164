-- A put of a key, and a get of it: the record, and what the laws refuse of it once a line is changed.
use Rattle.std.specs.Prelude.{List, [], ◌∷◌, ◌++◌, Some, None}
use Rattle.wfe_core.specs.words.declared.layout.Layout.{Layout}
use Rattle.wfe_core.specs.words.declared.config.SchemeKind.TheVariants.{He}
use Rattle.wfe_core.specs.defs.Entry.{Entry}
use Rattle.wfe_core.specs.defs.declared.call.Answer.TheVariants as answers
use Rattle.wfe_core.specs.defs.declared.call.Call.TheVariants as calls
use Rattle.wfe_core.specs.defs.declared.call.ClockMove.TheVariants as moves
use Rattle.wfe_core.specs.defs.declared.event.Event.TheVariants as events
use Rattle.wfe_core.specs.defs.declared.event.Guard.TheVariants as guards
use Rattle.wfe_core.specs.defs.declared.event.Root.TheVariants as roots
use Rattle.wfe_core.specs.Guards.{from_to}
use Rattle.model_history.specs.History.{Item}
use Rattle.model_history.specs.Among.{call, said, setting, to_end}
use Rattle.law_worked.specs.Judges.Law.{Calls, Clears, Indexes, Copies, Reuse, Free, Placing, Order, Nexts, Retiring, Backs, Lists, Blocks, Reads, Due, Room, Eras, Moves, Advances, Births, Retires, Current, Single, Rising, Guards, Kinds, Throughout, Sources, Finds, Gots, Links, Behind, Bare, Rests, Map, Values, Emptied, Steps, Withdrawals, Tries, Raises, Hazards, Asks, CallSteps, Told, Reasons, Full, Lacks, Counted, Refusals, Clock, Repeats, Alone, Named, Ranges}
use Rattle.law_worked.specs.Refusals.{IsWorked, Row, row}

abbrev pub put_then_get_setting : Layout
put_then_get_setting = setting He 1 8 2 1 100 100

abbrev pub put_then_get_items : List Item
put_then_get_items = call 0 (calls.Put 7 70) ++ to_end 0 ++ call 0 (calls.Get 7) ++ to_end 0

abbrev pub put_then_get : List Entry
put_then_get =
    said 0 (events.Begin (calls.Put 7 70))
    ∷ said 0 (events.Reserve (guards.Index 0 0) (from_to 1 1))
    ∷ said 0 (events.Null 0 4)
    ∷ said 0 (events.Give 0 1)
    ∷ said 0 (events.Link (roots.Bucket 0) 0)
    ∷ said 0 (events.Put 0 1 7 70)
    ∷ said 0 (events.Reserve (guards.Index 0 0) None)
    ∷ said 0 (events.End 13 (answers.Done 1 moves.Still))
    ∷ said 0 (events.Begin (calls.Get 7))
    ∷ said 0 (events.Reserve (guards.Index 0 0) (from_to 1 1))
    ∷ said 0 (events.Held 0 0 4)
    ∷ said 0 (events.Got 0 1 7 (Some 70))
    ∷ said 0 (events.Clear 0 0)
    ∷ said 0 (events.Reserve (guards.Index 0 0) None)
    ∷ said 0 (events.End 9 (answers.Got 1 (Some 70))) ∷ []

-- of each law the places at which it refuses a line that is dropped, told twice, told after the next one, altered, or slowed
abbrev pub put_then_get_table : List Row
put_then_get_table =
    row Calls (0 ∷ 7 ∷ 8 ∷ []) (0 ∷ 7 ∷ 8 ∷ 14 ∷ []) (0 ∷ 6 ∷ 7 ∷ 8 ∷ 13 ∷ []) [] []
    ∷ row Clears (10 ∷ []) (12 ∷ []) [] (10 ∷ 12 ∷ []) []
    ∷ row Indexes [] [] [] [] []
    ∷ row Copies [] [] [] [] []
    ∷ row Reuse [] [] [] (2 ∷ []) []
    ∷ row Free [] (3 ∷ []) [] [] []
    ∷ row Placing (3 ∷ 4 ∷ []) (3 ∷ 4 ∷ []) (3 ∷ []) (3 ∷ 4 ∷ []) []
    ∷ row Order (4 ∷ 5 ∷ []) (4 ∷ 5 ∷ []) (3 ∷ 4 ∷ 5 ∷ []) [] []
    ∷ row Nexts [] [] [] [] []
    ∷ row Retiring [] [] [] [] []
    ∷ row Backs [] [] [] [] []
    ∷ row Lists [] [] [] [] []
    ∷ row Blocks [] [] [] [] []
    ∷ row Reads [] [] [] [] []
    ∷ row Due [] [] [] [] []
    ∷ row Room [] [] [] [] []
    ∷ row Eras [] [] [] [] []
    ∷ row Moves [] [] [] [] []
    ∷ row Advances [] [] [] [] []
    ∷ row Births [] [] [] [] []
    ∷ row Retires [] [] [] [] []
    ∷ row Current [] [] [] (1 ∷ 9 ∷ []) []
    ∷ row Single [] [] [] [] []
    ∷ row Rising [] [] [] [] []
    ∷ row Guards [] [] [] [] []
    ∷ row Kinds [] [] [] [] []
    ∷ row Throughout (3 ∷ 9 ∷ 12 ∷ []) [] (9 ∷ 12 ∷ []) (2 ∷ 3 ∷ 10 ∷ 12 ∷ []) []
    ∷ row Sources (0 ∷ 4 ∷ []) [] [] (2 ∷ 4 ∷ 10 ∷ []) []
    ∷ row Finds (2 ∷ 10 ∷ []) [] (7 ∷ []) [] []
    ∷ row Gots (4 ∷ 5 ∷ 10 ∷ []) [] (4 ∷ 10 ∷ 11 ∷ []) (4 ∷ 10 ∷ 11 ∷ []) []
    ∷ row Links [] (4 ∷ []) [] [] []
    ∷ row Behind [] [] [] [] []
    ∷ row Bare (12 ∷ []) [] [] (2 ∷ 10 ∷ 12 ∷ []) []
    ∷ row Rests (6 ∷ 13 ∷ []) [] (6 ∷ 13 ∷ []) (6 ∷ 13 ∷ []) []
    ∷ row Map (5 ∷ []) (5 ∷ []) [] (5 ∷ 11 ∷ []) []
    ∷ row Values [] [] [] [] []
    ∷ row Emptied [] [] [] [] []
    ∷ row Steps [] [] [] [] []
    ∷ row Withdrawals [] [] [] [] []
    ∷ row Tries (1 ∷ 6 ∷ 9 ∷ []) (1 ∷ 9 ∷ []) (1 ∷ 9 ∷ []) (6 ∷ []) (2 ∷ 10 ∷ [])
    ∷ row Raises [] [] [] [] []
    ∷ row Hazards [] [] [] [] []
    ∷ row Asks [] [] [] [] []
    ∷ row CallSteps [] [] [] [] []
    ∷ row Told (0 ∷ 5 ∷ 8 ∷ 11 ∷ []) (5 ∷ 11 ∷ []) (7 ∷ []) (0 ∷ 5 ∷ 8 ∷ 11 ∷ 14 ∷ []) []
    ∷ row Reasons [] [] [] [] []
    ∷ row Full [] [] [] [] []
    ∷ row Lacks [] [] [] [] []
    ∷ row Counted [] [] [] [] []
    ∷ row Refusals [] [] [] [] []
    ∷ row Clock [] [] [] (7 ∷ []) []
    ∷ row Repeats [] (10 ∷ []) [] [] []
    ∷ row Alone [] (10 ∷ []) [] (2 ∷ []) []
    ∷ row Named [] [] [] [] []
    ∷ row Ranges [] [] [] [] [] ∷ []

abbrev pub PutThenGetWorked : Type 0
PutThenGetWorked = IsWorked put_then_get_setting put_then_get_items put_then_get put_then_get_table
