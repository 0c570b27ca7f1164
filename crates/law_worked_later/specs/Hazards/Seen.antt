-- A hold whose row is changed between its two loads: a scan sees the row that it published first, and keeps it, and a later one sees the other.
use Rattle.std.specs.Prelude.{List, [], ◌∷◌, ◌++◌, Some, None}
use Rattle.wfe_core.specs.words.declared.layout.Layout.{Layout}
use Rattle.wfe_core.specs.defs.Entry.{Entry}
use Rattle.wfe_core.specs.defs.declared.call.Answer.TheVariants as answers
use Rattle.wfe_core.specs.defs.declared.call.Call.TheVariants as calls
use Rattle.wfe_core.specs.defs.declared.call.ClockMove.TheVariants as moves
use Rattle.wfe_core.specs.defs.declared.event.Event.TheVariants as events
use Rattle.wfe_core.specs.defs.declared.event.Guard.TheVariants as guards
use Rattle.wfe_core.specs.defs.declared.event.Root.TheVariants as roots
use Rattle.model_history.specs.History.{Item, times}
use Rattle.model_history.specs.Among.{call, said, to_end}
use Rattle.law_worked.specs.Judges.Law.{Calls, Clears, Indexes, Copies, Reuse, Free, Placing, Order, Nexts, Retiring, Backs, Lists, Blocks, Reads, Due, Room, Eras, Moves, Advances, Births, Retires, Current, Single, Rising, Guards, Kinds, Throughout, Sources, Finds, Gots, Links, Behind, Bare, Rests, Map, Values, Emptied, Steps, Withdrawals, Tries, Raises, Hazards, Asks, CallSteps, Told, Reasons, Full, Lacks, Counted, Refusals, Clock, Repeats, Alone, Named, Ranges}
use Rattle.law_worked.specs.Refusals.{IsWorked, Row, row}
use Rattle.law_worked_later.specs.Hazards.Settings.{table}

abbrev pub seen_setting : Layout
seen_setting = table 2 3 8 1 3

abbrev pub seen_items : List Item
seen_items = call 0 (calls.Put 7 70) ++ to_end 0 ++ call 1 (calls.Hold 7) ++ times 2 1 ++ call 0 (calls.Put 7 71) ++ to_end 0 ++ to_end 1 ++ call 0 calls.Scan ++ to_end 0 ++ call 0 (calls.Put 7 72) ++ to_end 0 ++ call 1 calls.Release ++ to_end 1 ++ call 1 calls.Advance ++ to_end 1 ++ call 0 calls.Scan ++ to_end 0

abbrev pub seen : List Entry
seen =
    said 0 (events.Begin (calls.Put 7 70))
    ∷ said 0 (events.Null 0 1)
    ∷ said 0 (events.Give 0 1)
    ∷ said 0 (events.Link (roots.Bucket 0) 0)
    ∷ said 0 (events.Put 0 1 7 70)
    ∷ said 0 (events.Hazard (guards.Index 0 0) None)
    ∷ said 0 (events.End 10 (answers.Done 1 moves.Still))
    ∷ said 1 (events.Begin (calls.Hold 7))
    ∷ said 1 (events.Hazard (guards.Index 1 2) (Some 0))
    ∷ said 0 (events.Begin (calls.Put 7 71))
    ∷ said 0 (events.Hazard (guards.Index 0 0) (Some 0))
    ∷ said 0 (events.Held 0 0 3)
    ∷ said 0 (events.Give 1 1)
    ∷ said 0 (events.Link (roots.Bucket 0) 1)
    ∷ said 0 (events.Cut 0)
    ∷ said 0 (events.Put 0 2 7 71)
    ∷ said 0 (events.Clear 0 0)
    ∷ said 0 (events.Hazard (guards.Index 0 0) None)
    ∷ said 0 (events.Retire 0 1 1)
    ∷ said 0 (events.Saw (guards.Index 0 0) None)
    ∷ said 0 (events.Saw (guards.Index 0 1) None)
    ∷ said 0 (events.Saw (guards.Index 0 2) None)
    ∷ said 0 (events.Saw (guards.Index 1 0) None)
    ∷ said 0 (events.Saw (guards.Index 1 1) None)
    ∷ said 0 (events.Saw (guards.Index 1 2) (Some 0))
    ∷ said 0 (events.End 25 (answers.Done 2 moves.Still))
    ∷ said 1 (events.Hazard (guards.Index 1 2) (Some 1))
    ∷ said 1 (events.Held 2 1 5)
    ∷ said 1 (events.End 5 (answers.Holding 1))
    ∷ said 0 (events.Begin calls.Scan)
    ∷ said 0 (events.Saw (guards.Index 0 0) None)
    ∷ said 0 (events.Saw (guards.Index 0 1) None)
    ∷ said 0 (events.Saw (guards.Index 0 2) None)
    ∷ said 0 (events.Saw (guards.Index 1 0) None)
    ∷ said 0 (events.Saw (guards.Index 1 1) None)
    ∷ said 0 (events.Saw (guards.Index 1 2) (Some 1))
    ∷ said 0 (events.Back 0)
    ∷ said 0 (events.End 7 (answers.Scanned 0 1))
    ∷ said 0 (events.Begin (calls.Put 7 72))
    ∷ said 0 (events.Hazard (guards.Index 0 0) (Some 1))
    ∷ said 0 (events.Held 0 1 3)
    ∷ said 0 (events.Give 2 1)
    ∷ said 0 (events.Link (roots.Bucket 0) 2)
    ∷ said 0 (events.Cut 1)
    ∷ said 0 (events.Put 0 3 7 72)
    ∷ said 0 (events.Clear 0 1)
    ∷ said 0 (events.Hazard (guards.Index 0 0) None)
    ∷ said 0 (events.Retire 1 1 1)
    ∷ said 0 (events.Saw (guards.Index 0 0) None)
    ∷ said 0 (events.Saw (guards.Index 0 1) None)
    ∷ said 0 (events.Saw (guards.Index 0 2) None)
    ∷ said 0 (events.Saw (guards.Index 1 0) None)
    ∷ said 0 (events.Saw (guards.Index 1 1) None)
    ∷ said 0 (events.Saw (guards.Index 1 2) (Some 1))
    ∷ said 0 (events.End 25 (answers.Done 3 moves.Still))
    ∷ said 1 (events.Begin calls.Release)
    ∷ said 1 (events.Clear 2 1)
    ∷ said 1 (events.Hazard (guards.Index 1 2) None)
    ∷ said 1 (events.End 1 answers.Released)
    ∷ said 1 (events.Begin calls.Advance)
    ∷ said 1 (events.Era 2)
    ∷ said 1 (events.End 2 (answers.Clock (moves.Moved 2)))
    ∷ said 0 (events.Begin calls.Scan)
    ∷ said 0 (events.Saw (guards.Index 0 0) None)
    ∷ said 0 (events.Saw (guards.Index 0 1) None)
    ∷ said 0 (events.Saw (guards.Index 0 2) None)
    ∷ said 0 (events.Saw (guards.Index 1 0) None)
    ∷ said 0 (events.Saw (guards.Index 1 1) None)
    ∷ said 0 (events.Saw (guards.Index 1 2) None)
    ∷ said 0 (events.Back 1)
    ∷ said 0 (events.End 7 (answers.Scanned 0 1)) ∷ []

-- of each law the places at which it refuses a line that is dropped, told twice, told after the next one, altered, or slowed
abbrev pub seen_table : List Row
seen_table =
    row Calls (0 ∷ 6 ∷ 7 ∷ 9 ∷ 25 ∷ 28 ∷ 29 ∷ 37 ∷ 38 ∷ 54 ∷ 55 ∷ 58 ∷ 59 ∷ 62 ∷ []) (0 ∷ 6 ∷ 7 ∷ 9 ∷ 25 ∷ 28 ∷ 29 ∷ 37 ∷ 38 ∷ 54 ∷ 55 ∷ 58 ∷ 59 ∷ 61 ∷ 62 ∷ 70 ∷ []) (0 ∷ 5 ∷ 7 ∷ 9 ∷ 24 ∷ 27 ∷ 29 ∷ 36 ∷ 37 ∷ 38 ∷ 53 ∷ 55 ∷ 57 ∷ 58 ∷ 59 ∷ 60 ∷ 62 ∷ 69 ∷ []) [] []
    ∷ row Clears (11 ∷ 27 ∷ 40 ∷ []) (16 ∷ 45 ∷ 56 ∷ []) [] (11 ∷ 16 ∷ 27 ∷ 40 ∷ 45 ∷ 56 ∷ []) []
    ∷ row Indexes (7 ∷ []) [] [] (7 ∷ 55 ∷ []) []
    ∷ row Copies [] [] [] [] []
    ∷ row Reuse (16 ∷ 45 ∷ 56 ∷ []) [] [] (1 ∷ 11 ∷ 16 ∷ 27 ∷ 36 ∷ 40 ∷ 45 ∷ 56 ∷ []) []
    ∷ row Free (2 ∷ 12 ∷ []) (2 ∷ 12 ∷ 36 ∷ 41 ∷ 69 ∷ []) [] (2 ∷ 12 ∷ 36 ∷ []) []
    ∷ row Placing (2 ∷ 3 ∷ 9 ∷ 12 ∷ 13 ∷ 41 ∷ 42 ∷ []) (2 ∷ 3 ∷ 12 ∷ 13 ∷ 41 ∷ 42 ∷ []) (2 ∷ 12 ∷ 41 ∷ []) (2 ∷ 3 ∷ 12 ∷ 13 ∷ 41 ∷ 42 ∷ []) []
    ∷ row Order (3 ∷ 4 ∷ 13 ∷ 14 ∷ 15 ∷ 42 ∷ 43 ∷ 44 ∷ []) (3 ∷ 4 ∷ 13 ∷ 14 ∷ 15 ∷ 42 ∷ 43 ∷ 44 ∷ []) (2 ∷ 3 ∷ 4 ∷ 12 ∷ 13 ∷ 14 ∷ 15 ∷ 41 ∷ 42 ∷ 43 ∷ 44 ∷ []) (3 ∷ 13 ∷ 14 ∷ 43 ∷ []) []
    ∷ row Nexts [] [] [] [] []
    ∷ row Retiring (14 ∷ 18 ∷ 43 ∷ 47 ∷ []) (14 ∷ 18 ∷ 43 ∷ 47 ∷ []) [] (14 ∷ 43 ∷ []) []
    ∷ row Backs (18 ∷ 47 ∷ []) (36 ∷ 69 ∷ []) [] (36 ∷ 69 ∷ []) []
    ∷ row Lists [] [] [] [] []
    ∷ row Blocks (18 ∷ 19 ∷ 20 ∷ 21 ∷ 22 ∷ 23 ∷ 24 ∷ 30 ∷ 31 ∷ 32 ∷ 33 ∷ 34 ∷ 35 ∷ 36 ∷ 47 ∷ 48 ∷ 49 ∷ 50 ∷ 51 ∷ 52 ∷ 53 ∷ 63 ∷ 64 ∷ 65 ∷ 66 ∷ 67 ∷ 68 ∷ 69 ∷ []) (19 ∷ 20 ∷ 21 ∷ 22 ∷ 23 ∷ 24 ∷ 30 ∷ 31 ∷ 32 ∷ 33 ∷ 34 ∷ 35 ∷ 36 ∷ 48 ∷ 49 ∷ 50 ∷ 51 ∷ 52 ∷ 53 ∷ 63 ∷ 64 ∷ 65 ∷ 66 ∷ 67 ∷ 68 ∷ 69 ∷ []) (18 ∷ 19 ∷ 20 ∷ 21 ∷ 22 ∷ 23 ∷ 24 ∷ 29 ∷ 30 ∷ 31 ∷ 32 ∷ 33 ∷ 34 ∷ 35 ∷ 36 ∷ 47 ∷ 48 ∷ 49 ∷ 50 ∷ 51 ∷ 52 ∷ 53 ∷ 62 ∷ 63 ∷ 64 ∷ 65 ∷ 66 ∷ 67 ∷ 68 ∷ 69 ∷ []) (24 ∷ 30 ∷ 31 ∷ 32 ∷ 33 ∷ 34 ∷ 36 ∷ 53 ∷ 69 ∷ []) []
    ∷ row Reads (8 ∷ 17 ∷ 26 ∷ 46 ∷ 57 ∷ []) [] [] (8 ∷ 17 ∷ 19 ∷ 20 ∷ 21 ∷ 22 ∷ 23 ∷ 24 ∷ 26 ∷ 30 ∷ 31 ∷ 32 ∷ 33 ∷ 34 ∷ 35 ∷ 46 ∷ 48 ∷ 49 ∷ 50 ∷ 51 ∷ 52 ∷ 53 ∷ 57 ∷ 63 ∷ 64 ∷ 65 ∷ 66 ∷ 67 ∷ 68 ∷ []) []
    ∷ row Due (18 ∷ 29 ∷ 38 ∷ 47 ∷ 62 ∷ []) (19 ∷ 20 ∷ 21 ∷ 22 ∷ 23 ∷ 24 ∷ 30 ∷ 31 ∷ 32 ∷ 33 ∷ 34 ∷ 35 ∷ 48 ∷ 49 ∷ 50 ∷ 51 ∷ 52 ∷ 53 ∷ 63 ∷ 64 ∷ 65 ∷ 66 ∷ 67 ∷ 68 ∷ []) (18 ∷ 29 ∷ 47 ∷ 62 ∷ []) (29 ∷ 59 ∷ 62 ∷ []) []
    ∷ row Room (18 ∷ 47 ∷ []) [] (18 ∷ 47 ∷ []) [] []
    ∷ row Eras [] (60 ∷ []) [] (60 ∷ []) []
    ∷ row Moves (59 ∷ []) (60 ∷ []) [] (59 ∷ []) []
    ∷ row Advances (59 ∷ []) (60 ∷ []) (59 ∷ []) (59 ∷ []) []
    ∷ row Births [] [] [] [] []
    ∷ row Retires (2 ∷ 12 ∷ 14 ∷ 43 ∷ []) [] [] (2 ∷ 12 ∷ 14 ∷ 18 ∷ 36 ∷ 43 ∷ 47 ∷ []) []
    ∷ row Current [] [] [] [] []
    ∷ row Single [] [] [] [] []
    ∷ row Rising [] [] [] [] []
    ∷ row Guards [] [] [] [] []
    ∷ row Kinds [] [] [] [] []
    ∷ row Throughout (2 ∷ 10 ∷ 12 ∷ 16 ∷ 26 ∷ 39 ∷ 45 ∷ 56 ∷ []) [] (10 ∷ 16 ∷ 26 ∷ 39 ∷ 45 ∷ 56 ∷ []) (1 ∷ 2 ∷ 10 ∷ 11 ∷ 12 ∷ 16 ∷ 26 ∷ 27 ∷ 36 ∷ 39 ∷ 40 ∷ 45 ∷ 56 ∷ []) []
    ∷ row Sources (0 ∷ 3 ∷ 7 ∷ 13 ∷ 38 ∷ []) [] (0 ∷ []) (1 ∷ 3 ∷ 11 ∷ 13 ∷ 27 ∷ 40 ∷ []) []
    ∷ row Finds (1 ∷ 11 ∷ 40 ∷ []) [] (0 ∷ 37 ∷ []) (7 ∷ []) []
    ∷ row Gots [] [] [] [] []
    ∷ row Links (11 ∷ 13 ∷ 40 ∷ []) (3 ∷ 13 ∷ 42 ∷ []) [] (3 ∷ 11 ∷ 13 ∷ 40 ∷ []) []
    ∷ row Behind [] [] [] [] []
    ∷ row Bare (16 ∷ 45 ∷ []) [] [] (1 ∷ 11 ∷ 16 ∷ 40 ∷ 45 ∷ []) []
    ∷ row Rests (17 ∷ 27 ∷ 46 ∷ 56 ∷ 57 ∷ []) [] (27 ∷ 57 ∷ []) (5 ∷ 17 ∷ 27 ∷ 46 ∷ 56 ∷ 57 ∷ []) []
    ∷ row Map (4 ∷ 15 ∷ []) (4 ∷ 15 ∷ 44 ∷ []) [] [] []
    ∷ row Values [] [] [] [] []
    ∷ row Emptied [] [] [] [] []
    ∷ row Steps [] [] [] [] []
    ∷ row Withdrawals [] [] [] [] []
    ∷ row Tries [] [] [] [] []
    ∷ row Raises [] [] [] [] []
    ∷ row Hazards (8 ∷ 10 ∷ 17 ∷ 26 ∷ 39 ∷ []) (8 ∷ 10 ∷ 26 ∷ 39 ∷ []) (10 ∷ 26 ∷ 39 ∷ []) (5 ∷ 8 ∷ 17 ∷ []) (1 ∷ 11 ∷ 27 ∷ 40 ∷ [])
    ∷ row Asks [] [] [] [] []
    ∷ row CallSteps (36 ∷ 38 ∷ 59 ∷ 69 ∷ []) (36 ∷ 69 ∷ []) (36 ∷ 69 ∷ []) (29 ∷ 59 ∷ 62 ∷ []) (37 ∷ 58 ∷ 61 ∷ 70 ∷ [])
    ∷ row Told (0 ∷ 4 ∷ 7 ∷ 9 ∷ 15 ∷ 29 ∷ 38 ∷ 44 ∷ 55 ∷ 59 ∷ 62 ∷ []) (4 ∷ 15 ∷ 44 ∷ []) (37 ∷ 58 ∷ []) (0 ∷ 4 ∷ 7 ∷ 9 ∷ 15 ∷ 29 ∷ 38 ∷ 44 ∷ 55 ∷ 58 ∷ 59 ∷ 62 ∷ []) []
    ∷ row Reasons (27 ∷ 36 ∷ 56 ∷ 69 ∷ []) (36 ∷ 69 ∷ []) (27 ∷ 36 ∷ 69 ∷ []) (27 ∷ 28 ∷ 36 ∷ 37 ∷ 56 ∷ 69 ∷ 70 ∷ []) []
    ∷ row Full [] [] [] [] []
    ∷ row Lacks [] [] [] [] []
    ∷ row Counted (18 ∷ 29 ∷ 47 ∷ 62 ∷ []) (18 ∷ 47 ∷ []) [] [] []
    ∷ row Refusals [] [] [] [] []
    ∷ row Clock (59 ∷ 60 ∷ []) [] (59 ∷ 60 ∷ []) (6 ∷ 25 ∷ 54 ∷ 59 ∷ 60 ∷ 61 ∷ []) []
    ∷ row Repeats [] [] [] [] []
    ∷ row Alone (16 ∷ []) (11 ∷ 27 ∷ 40 ∷ []) [] (1 ∷ []) []
    ∷ row Named [] [] [] [] []
    ∷ row Ranges [] [] [] [] [] ∷ []

abbrev pub SeenWorked : Type 0
SeenWorked = IsWorked seen_setting seen_items seen seen_table
