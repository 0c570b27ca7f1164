-- Puts that name the version at which alone they are done: the record, and what the laws refuse of it once a line is changed.
use Rattle.std.specs.Prelude.{List, [], ◌∷◌, ◌++◌, None}
use Rattle.wfe_core.specs.words.declared.layout.Layout.{Layout}
use Rattle.wfe_core.specs.words.declared.config.SchemeKind.TheVariants.{He}
use Rattle.wfe_core.specs.defs.Entry.{Entry}
use Rattle.wfe_core.specs.defs.declared.call.Answer.TheVariants as answers
use Rattle.wfe_core.specs.defs.declared.call.Call.TheVariants as calls
use Rattle.wfe_core.specs.defs.declared.call.ClockMove.TheVariants as moves
use Rattle.wfe_core.specs.defs.declared.event.Event.TheVariants as events
use Rattle.wfe_core.specs.defs.declared.event.Guard.TheVariants as guards
use Rattle.wfe_core.specs.defs.declared.event.Root.TheVariants as roots
use Rattle.wfe_core.specs.Guards.{from_to}
use Rattle.model_history.specs.History.{Item}
use Rattle.model_history.specs.Among.{call, said, to_end}
use Rattle.law_worked.specs.Judges.Law.{Calls, Clears, Indexes, Copies, Reuse, Free, Placing, Order, Nexts, Retiring, Backs, Lists, Blocks, Reads, Due, Room, Eras, Moves, Advances, Births, Retires, Current, Single, Rising, Guards, Kinds, Throughout, Sources, Finds, Gots, Links, Behind, Bare, Rests, Map, Values, Emptied, Steps, Withdrawals, Tries, Raises, Hazards, Asks, CallSteps, Told, Reasons, Full, Lacks, Counted, Refusals, Clock, Repeats, Alone, Named, Ranges}
use Rattle.law_worked.specs.Refusals.{IsWorked, Row, row}
use Rattle.law_worked_later.specs.Copies.Settings.{table}

abbrev pub at_version_setting : Layout
at_version_setting = table He 1 3 8 2 100 100 100 14

abbrev pub at_version_items : List Item
at_version_items = call 0 (calls.PutIf 7 70 0) ++ to_end 0 ++ call 0 (calls.PutIf 7 71 0) ++ to_end 0 ++ call 0 (calls.PutIf 7 72 1) ++ to_end 0

abbrev pub at_version : List Entry
at_version =
    said 0 (events.Begin (calls.PutIf 7 70 0))
    ∷ said 0 (events.Reserve (guards.Index 0 0) (from_to 1 1))
    ∷ said 0 (events.Null 0 4)
    ∷ said 0 (events.Give 0 1)
    ∷ said 0 (events.Link (roots.Bucket 0) 0)
    ∷ said 0 (events.Put 0 1 7 70)
    ∷ said 0 (events.Reserve (guards.Index 0 0) None)
    ∷ said 0 (events.End 13 (answers.Done 1 moves.Still))
    ∷ said 0 (events.Begin (calls.PutIf 7 71 0))
    ∷ said 0 (events.Reserve (guards.Index 0 0) (from_to 1 1))
    ∷ said 0 (events.Held 0 0 4)
    ∷ said 0 (events.Clear 0 0)
    ∷ said 0 (events.Reserve (guards.Index 0 0) None)
    ∷ said 0 (events.End 9 (answers.Stale 1))
    ∷ said 0 (events.Begin (calls.PutIf 7 72 1))
    ∷ said 0 (events.Reserve (guards.Index 0 0) (from_to 1 1))
    ∷ said 0 (events.Held 0 0 4)
    ∷ said 0 (events.Give 1 1)
    ∷ said 0 (events.Link (roots.Bucket 0) 1)
    ∷ said 0 (events.Cut 0)
    ∷ said 0 (events.Put 0 2 7 72)
    ∷ said 0 (events.Clear 0 0)
    ∷ said 0 (events.Reserve (guards.Index 0 0) None)
    ∷ said 0 (events.Retire 0 1 1)
    ∷ said 0 (events.End 20 (answers.Done 2 moves.Still)) ∷ []

-- of each law the places at which it refuses a line that is dropped, told twice, told after the next one, altered, or slowed
abbrev pub at_version_table : List Row
at_version_table =
    row Calls (0 ∷ 7 ∷ 8 ∷ 13 ∷ 14 ∷ []) (0 ∷ 7 ∷ 8 ∷ 13 ∷ 14 ∷ 24 ∷ []) (0 ∷ 6 ∷ 7 ∷ 8 ∷ 12 ∷ 13 ∷ 14 ∷ 23 ∷ []) [] []
    ∷ row Clears (10 ∷ 16 ∷ []) (11 ∷ 21 ∷ []) (10 ∷ []) (10 ∷ 11 ∷ 16 ∷ 21 ∷ []) []
    ∷ row Indexes [] [] [] [] []
    ∷ row Copies [] [] [] [] []
    ∷ row Reuse [] [] [] (2 ∷ 10 ∷ 16 ∷ []) []
    ∷ row Free [] (3 ∷ 17 ∷ []) [] (3 ∷ []) []
    ∷ row Placing (3 ∷ 4 ∷ 17 ∷ 18 ∷ []) (3 ∷ 4 ∷ 17 ∷ 18 ∷ []) (3 ∷ 17 ∷ []) (3 ∷ 4 ∷ 17 ∷ 18 ∷ []) []
    ∷ row Order (4 ∷ 5 ∷ 18 ∷ 19 ∷ 20 ∷ []) (4 ∷ 5 ∷ 18 ∷ 19 ∷ 20 ∷ []) (3 ∷ 4 ∷ 5 ∷ 17 ∷ 18 ∷ 19 ∷ 20 ∷ []) (4 ∷ 19 ∷ []) []
    ∷ row Nexts [] [] [] [] []
    ∷ row Retiring (19 ∷ 23 ∷ []) (19 ∷ 23 ∷ []) (23 ∷ []) (19 ∷ []) []
    ∷ row Backs [] [] [] [] []
    ∷ row Lists [] [] [] [] []
    ∷ row Blocks [] [] [] [] []
    ∷ row Reads [] [] [] [] []
    ∷ row Due [] [] [] [] []
    ∷ row Room [] [] [] [] []
    ∷ row Eras [] [] [] [] []
    ∷ row Moves [] [] [] [] []
    ∷ row Advances [] [] [] [] []
    ∷ row Births [] [] [] [] []
    ∷ row Retires (3 ∷ 19 ∷ []) [] [] (3 ∷ 19 ∷ 23 ∷ []) []
    ∷ row Current [] [] [] (1 ∷ 9 ∷ 15 ∷ []) []
    ∷ row Single [] [] [] [] []
    ∷ row Rising [] [] [] [] []
    ∷ row Guards [] [] [] [] []
    ∷ row Kinds [] [] [] [] []
    ∷ row Throughout (3 ∷ 9 ∷ 11 ∷ 15 ∷ 21 ∷ []) [] (9 ∷ 10 ∷ 11 ∷ 15 ∷ 21 ∷ []) (2 ∷ 3 ∷ 10 ∷ 11 ∷ 16 ∷ 21 ∷ []) []
    ∷ row Sources (0 ∷ 4 ∷ []) [] [] (2 ∷ 4 ∷ 10 ∷ 16 ∷ []) []
    ∷ row Finds (2 ∷ 10 ∷ 16 ∷ []) [] (7 ∷ 13 ∷ []) [] []
    ∷ row Gots [] [] [] [] []
    ∷ row Links (16 ∷ []) (4 ∷ 18 ∷ []) [] (4 ∷ 16 ∷ []) []
    ∷ row Behind [] [] [] [] []
    ∷ row Bare (11 ∷ 21 ∷ []) [] (10 ∷ []) (2 ∷ 10 ∷ 11 ∷ 16 ∷ 21 ∷ []) []
    ∷ row Rests (6 ∷ 12 ∷ 22 ∷ []) [] (6 ∷ 12 ∷ []) (6 ∷ 12 ∷ 22 ∷ []) []
    ∷ row Map (5 ∷ []) (5 ∷ 20 ∷ []) [] [] []
    ∷ row Values [] [] [] [] []
    ∷ row Emptied [] [] [] [] []
    ∷ row Steps [] [] [] [] []
    ∷ row Withdrawals [] [] [] [] []
    ∷ row Tries (1 ∷ 6 ∷ 9 ∷ 12 ∷ 15 ∷ []) (1 ∷ 9 ∷ 15 ∷ []) (1 ∷ 9 ∷ 15 ∷ []) (6 ∷ 12 ∷ []) (2 ∷ 10 ∷ 16 ∷ [])
    ∷ row Raises [] [] [] [] []
    ∷ row Hazards [] [] [] [] []
    ∷ row Asks [] [] [] [] []
    ∷ row CallSteps [] [] [] [] []
    ∷ row Told (0 ∷ 5 ∷ 14 ∷ 20 ∷ []) (5 ∷ 20 ∷ []) (7 ∷ []) (5 ∷ 20 ∷ []) []
    ∷ row Reasons (5 ∷ 14 ∷ []) (5 ∷ []) (13 ∷ []) (0 ∷ 8 ∷ 13 ∷ 14 ∷ []) []
    ∷ row Full [] [] [] [] []
    ∷ row Lacks [] [] [] [] []
    ∷ row Counted (23 ∷ []) (23 ∷ []) (23 ∷ []) [] []
    ∷ row Refusals (8 ∷ []) [] [] [] []
    ∷ row Clock [] [] [] (7 ∷ 24 ∷ []) []
    ∷ row Repeats [] (10 ∷ []) [] [] []
    ∷ row Alone (11 ∷ []) (10 ∷ 16 ∷ []) (10 ∷ []) (2 ∷ []) []
    ∷ row Named [] [] [] [] []
    ∷ row Ranges [] [] [] [] [] ∷ []

abbrev pub AtVersionWorked : Type 0
AtVersionWorked = IsWorked at_version_setting at_version_items at_version at_version_table
