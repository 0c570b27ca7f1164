-- Under 2GE a seat withdraws its interval with both its rows and leaves, the seat that took its list over leaves too, and a third one has the
-- list from it: the record, and what the laws refuse of it once a line is changed.
use Rattle.std.specs.Prelude.{List, [], ◌∷◌, ◌++◌, None}
use Rattle.wfe_core.specs.words.declared.layout.Layout.{Layout}
use Rattle.wfe_core.specs.words.declared.config.SchemeKind.TheVariants.{Ibr}
use Rattle.wfe_core.specs.defs.Entry.{Entry}
use Rattle.wfe_core.specs.defs.declared.call.Answer.TheVariants as answers
use Rattle.wfe_core.specs.defs.declared.call.Call.TheVariants as calls
use Rattle.wfe_core.specs.defs.declared.call.ClockMove.TheVariants as moves
use Rattle.wfe_core.specs.defs.declared.event.Event.TheVariants as events
use Rattle.wfe_core.specs.defs.declared.event.Guard.TheVariants as guards
use Rattle.wfe_core.specs.defs.declared.event.Root.TheVariants as roots
use Rattle.wfe_core.specs.Guards.{from_to}
use Rattle.model_history.specs.History.{Item}
use Rattle.model_history.specs.Among.{call, said, to_end}
use Rattle.law_worked.specs.Judges.Law.{Calls, Clears, Indexes, Copies, Reuse, Free, Placing, Order, Nexts, Retiring, Backs, Lists, Blocks, Reads, Due, Room, Eras, Moves, Advances, Births, Retires, Current, Single, Rising, Guards, Kinds, Throughout, Sources, Finds, Gots, Links, Behind, Bare, Rests, Map, Values, Emptied, Steps, Withdrawals, Tries, Raises, Hazards, Asks, CallSteps, Told, Reasons, Full, Lacks, Counted, Refusals, Clock, Repeats, Alone, Named, Ranges}
use Rattle.law_worked.specs.Refusals.{IsWorked, Row, row}
use Rattle.law_worked_later.specs.Leaves.Settings.{table}

abbrev pub passed_on_setting : Layout
passed_on_setting = table Ibr 3 4 8 2 2 100 100 6

abbrev pub passed_on_items : List Item
passed_on_items = call 0 (calls.Put 7 70) ++ to_end 0 ++ call 0 (calls.Put 7 71) ++ to_end 0 ++ call 0 (calls.Hold 7) ++ to_end 0 ++ call 0 (calls.Copy 2 3) ++ to_end 0 ++ call 0 calls.Leave ++ to_end 0 ++ call 1 (calls.Adopt 0) ++ to_end 1 ++ call 1 calls.Leave ++ to_end 1 ++ call 2 (calls.Adopt 0) ++ to_end 2 ++ call 2 (calls.Adopt 1) ++ to_end 2 ++ call 2 calls.Scan ++ to_end 2

abbrev pub passed_on : List Entry
passed_on =
    said 0 (events.Begin (calls.Put 7 70))
    ∷ said 0 (events.Reserve (guards.Whole 0) (from_to 1 1))
    ∷ said 0 (events.Null 0 2)
    ∷ said 0 (events.Give 0 1)
    ∷ said 0 (events.Link (roots.Bucket 0) 0)
    ∷ said 0 (events.Put 0 1 7 70)
    ∷ said 0 (events.Reserve (guards.Whole 0) None)
    ∷ said 0 (events.End 13 (answers.Done 1 moves.Still))
    ∷ said 0 (events.Begin (calls.Put 7 71))
    ∷ said 0 (events.Reserve (guards.Whole 0) (from_to 1 1))
    ∷ said 0 (events.Held 0 0 2)
    ∷ said 0 (events.Give 1 1)
    ∷ said 0 (events.Link (roots.Bucket 0) 1)
    ∷ said 0 (events.Cut 0)
    ∷ said 0 (events.Put 0 2 7 71)
    ∷ said 0 (events.Clear 0 0)
    ∷ said 0 (events.Reserve (guards.Whole 0) None)
    ∷ said 0 (events.Retire 0 1 1)
    ∷ said 0 (events.End 20 (answers.Done 2 moves.Still))
    ∷ said 0 (events.Begin (calls.Hold 7))
    ∷ said 0 (events.Reserve (guards.Whole 0) (from_to 1 1))
    ∷ said 0 (events.Held 2 1 2)
    ∷ said 0 (events.End 4 (answers.Holding 1))
    ∷ said 0 (events.Begin (calls.Copy 2 3))
    ∷ said 0 (events.Copied 2 3 1)
    ∷ said 0 (events.End 1 (answers.Copied 1))
    ∷ said 0 (events.Begin calls.Leave)
    ∷ said 0 (events.Clear 2 1)
    ∷ said 0 (events.Clear 3 1)
    ∷ said 0 (events.Reserve (guards.Whole 0) None)
    ∷ said 0 (events.Left 1)
    ∷ said 0 (events.End 2 (answers.Left 1))
    ∷ said 1 (events.Begin (calls.Adopt 0))
    ∷ said 1 (events.Adopted 0 1)
    ∷ said 1 (events.End 2 (answers.Adopted 1))
    ∷ said 1 (events.Begin calls.Leave)
    ∷ said 1 (events.Left 1)
    ∷ said 1 (events.End 1 (answers.Left 1))
    ∷ said 2 (events.Begin (calls.Adopt 0))
    ∷ said 2 (events.End 1 answers.AdoptedBefore)
    ∷ said 2 (events.Begin (calls.Adopt 1))
    ∷ said 2 (events.Adopted 1 1)
    ∷ said 2 (events.End 2 (answers.Adopted 1))
    ∷ said 2 (events.Begin calls.Scan)
    ∷ said 2 (events.Read (guards.Whole 0) None)
    ∷ said 2 (events.Read (guards.Whole 1) None)
    ∷ said 2 (events.Read (guards.Whole 2) None)
    ∷ said 2 (events.Back 0)
    ∷ said 2 (events.End 4 (answers.Scanned 0 1)) ∷ []

-- of each law the places at which it refuses a line that is dropped, told twice, told after the next one, altered, or slowed
abbrev pub passed_on_table : List Row
passed_on_table =
    row Calls (0 ∷ 7 ∷ 8 ∷ 18 ∷ 19 ∷ 22 ∷ 23 ∷ 25 ∷ 26 ∷ 32 ∷ 34 ∷ 35 ∷ 38 ∷ 39 ∷ 40 ∷ 42 ∷ 43 ∷ []) (0 ∷ 7 ∷ 8 ∷ 18 ∷ 19 ∷ 22 ∷ 23 ∷ 25 ∷ 26 ∷ 31 ∷ 32 ∷ 34 ∷ 35 ∷ 37 ∷ 38 ∷ 39 ∷ 40 ∷ 42 ∷ 43 ∷ 48 ∷ []) (0 ∷ 6 ∷ 7 ∷ 8 ∷ 17 ∷ 18 ∷ 19 ∷ 21 ∷ 22 ∷ 23 ∷ 24 ∷ 25 ∷ 26 ∷ 30 ∷ 32 ∷ 33 ∷ 34 ∷ 35 ∷ 36 ∷ 38 ∷ 39 ∷ 40 ∷ 41 ∷ 42 ∷ 43 ∷ 47 ∷ []) [] []
    ∷ row Clears (10 ∷ 21 ∷ 24 ∷ []) (15 ∷ 27 ∷ 28 ∷ []) [] (10 ∷ 15 ∷ 21 ∷ 24 ∷ 27 ∷ 28 ∷ []) []
    ∷ row Indexes (19 ∷ 26 ∷ []) [] (26 ∷ []) (19 ∷ 26 ∷ []) []
    ∷ row Copies (21 ∷ 23 ∷ []) (24 ∷ []) (23 ∷ []) (21 ∷ 23 ∷ 24 ∷ []) []
    ∷ row Reuse (15 ∷ []) [] [] (2 ∷ 10 ∷ 15 ∷ []) []
    ∷ row Free (3 ∷ []) (3 ∷ 11 ∷ 47 ∷ []) [] (3 ∷ []) []
    ∷ row Placing (3 ∷ 4 ∷ 8 ∷ 11 ∷ 12 ∷ []) (3 ∷ 4 ∷ 11 ∷ 12 ∷ []) (3 ∷ 11 ∷ []) (3 ∷ 4 ∷ 11 ∷ 12 ∷ []) []
    ∷ row Order (4 ∷ 5 ∷ 12 ∷ 13 ∷ 14 ∷ []) (4 ∷ 5 ∷ 12 ∷ 13 ∷ 14 ∷ []) (3 ∷ 4 ∷ 5 ∷ 11 ∷ 12 ∷ 13 ∷ 14 ∷ []) (4 ∷ 13 ∷ []) []
    ∷ row Nexts [] [] [] [] []
    ∷ row Retiring (13 ∷ 17 ∷ []) (13 ∷ 17 ∷ []) (17 ∷ []) (13 ∷ []) []
    ∷ row Backs (17 ∷ 33 ∷ 41 ∷ []) (47 ∷ []) [] (47 ∷ []) []
    ∷ row Lists (17 ∷ 26 ∷ 30 ∷ 32 ∷ 33 ∷ 35 ∷ 36 ∷ 40 ∷ []) (17 ∷ 33 ∷ 41 ∷ []) (32 ∷ 35 ∷ 40 ∷ []) (26 ∷ 30 ∷ 32 ∷ 33 ∷ 35 ∷ 36 ∷ 40 ∷ 41 ∷ []) []
    ∷ row Blocks (17 ∷ 33 ∷ 41 ∷ 44 ∷ 45 ∷ 46 ∷ 47 ∷ []) (44 ∷ 45 ∷ 46 ∷ 47 ∷ []) (43 ∷ 44 ∷ 45 ∷ 46 ∷ 47 ∷ []) (44 ∷ 45 ∷ 46 ∷ 47 ∷ []) []
    ∷ row Reads (29 ∷ []) [] [] (29 ∷ 44 ∷ 45 ∷ 46 ∷ []) []
    ∷ row Due (43 ∷ []) (17 ∷ 44 ∷ 45 ∷ 46 ∷ []) (42 ∷ 43 ∷ []) (26 ∷ 35 ∷ 43 ∷ []) []
    ∷ row Room [] [] [] [] []
    ∷ row Eras [] [] [] [] []
    ∷ row Moves [] [] [] [] []
    ∷ row Advances [] [] [] [] []
    ∷ row Births [] [] [] [] []
    ∷ row Retires (3 ∷ 13 ∷ []) [] [] (3 ∷ 13 ∷ 17 ∷ []) []
    ∷ row Current [] [] [] (1 ∷ 9 ∷ 20 ∷ []) []
    ∷ row Single [] [] [] [] []
    ∷ row Rising (6 ∷ 16 ∷ []) (1 ∷ 9 ∷ 20 ∷ []) [] (6 ∷ 16 ∷ 29 ∷ []) []
    ∷ row Guards [] [] [] [] []
    ∷ row Kinds [] [] [] [] []
    ∷ row Throughout (3 ∷ 9 ∷ 11 ∷ 15 ∷ 20 ∷ 27 ∷ 28 ∷ []) [] (9 ∷ 15 ∷ 20 ∷ 28 ∷ []) (2 ∷ 3 ∷ 10 ∷ 11 ∷ 15 ∷ 21 ∷ 24 ∷ 27 ∷ 28 ∷ []) []
    ∷ row Sources (0 ∷ 4 ∷ 12 ∷ []) [] [] (2 ∷ 4 ∷ 10 ∷ 12 ∷ 21 ∷ []) []
    ∷ row Finds (2 ∷ 10 ∷ []) [] (7 ∷ []) (19 ∷ []) []
    ∷ row Gots [] [] [] [] []
    ∷ row Links (10 ∷ []) (4 ∷ 12 ∷ []) [] (4 ∷ 10 ∷ []) []
    ∷ row Behind [] [] [] [] []
    ∷ row Bare (15 ∷ []) [] [] (2 ∷ 10 ∷ 15 ∷ []) []
    ∷ row Rests (6 ∷ 16 ∷ 20 ∷ 21 ∷ 27 ∷ 28 ∷ 29 ∷ []) [] (6 ∷ 21 ∷ []) (6 ∷ 16 ∷ 21 ∷ 24 ∷ 27 ∷ 28 ∷ 29 ∷ []) []
    ∷ row Map (5 ∷ []) (5 ∷ 14 ∷ []) [] [] []
    ∷ row Values [] [] [] [] []
    ∷ row Emptied [] [] [] [] []
    ∷ row Steps [] [] [] [] []
    ∷ row Withdrawals [] [] [] [] []
    ∷ row Tries [] [] [] [] []
    ∷ row Raises (6 ∷ 16 ∷ []) (1 ∷ 9 ∷ 20 ∷ []) [] (6 ∷ 16 ∷ []) (2 ∷ 10 ∷ 21 ∷ [])
    ∷ row Hazards [] [] [] [] []
    ∷ row Asks [] [] [] [] []
    ∷ row CallSteps (26 ∷ 47 ∷ []) (47 ∷ []) (22 ∷ 42 ∷ 47 ∷ []) (26 ∷ 35 ∷ 43 ∷ []) (25 ∷ 48 ∷ [])
    ∷ row Told (0 ∷ 5 ∷ 8 ∷ 14 ∷ 19 ∷ 23 ∷ 24 ∷ 26 ∷ 30 ∷ 32 ∷ 33 ∷ 35 ∷ 36 ∷ 38 ∷ 40 ∷ 41 ∷ 43 ∷ []) (5 ∷ 14 ∷ 24 ∷ 30 ∷ 33 ∷ 36 ∷ 41 ∷ []) (7 ∷ 18 ∷ 22 ∷ 23 ∷ 24 ∷ 25 ∷ 30 ∷ 32 ∷ 33 ∷ 34 ∷ 35 ∷ 36 ∷ 38 ∷ 40 ∷ 41 ∷ 42 ∷ []) (0 ∷ 5 ∷ 8 ∷ 14 ∷ 19 ∷ 23 ∷ 24 ∷ 25 ∷ 26 ∷ 30 ∷ 31 ∷ 32 ∷ 33 ∷ 34 ∷ 35 ∷ 36 ∷ 37 ∷ 40 ∷ 41 ∷ 42 ∷ 43 ∷ []) []
    ∷ row Reasons (15 ∷ 21 ∷ 24 ∷ 27 ∷ 28 ∷ 33 ∷ 47 ∷ []) (47 ∷ []) (21 ∷ 24 ∷ 39 ∷ 47 ∷ []) (10 ∷ 15 ∷ 21 ∷ 22 ∷ 23 ∷ 24 ∷ 25 ∷ 27 ∷ 28 ∷ 38 ∷ 39 ∷ 47 ∷ 48 ∷ []) []
    ∷ row Full [] [] [] [] []
    ∷ row Lacks [] [] [] [] []
    ∷ row Counted (17 ∷ 19 ∷ []) (17 ∷ []) (17 ∷ 18 ∷ []) [] []
    ∷ row Refusals [] [] [] [] []
    ∷ row Clock [] (17 ∷ []) [] (7 ∷ 18 ∷ []) []
    ∷ row Repeats [] [] [] [] []
    ∷ row Alone [] (10 ∷ 21 ∷ 24 ∷ []) [] (2 ∷ []) []
    ∷ row Named [] [] [] [] []
    ∷ row Ranges [] [] [] [] [] ∷ []

abbrev pub PassedOnWorked : Type 0
PassedOnWorked = IsWorked passed_on_setting passed_on_items passed_on passed_on_table
