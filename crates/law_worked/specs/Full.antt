-- A put finds no free row, and a later one does after a scan: the record, and what the laws refuse of it once a line is changed.
use Rattle.std.specs.Prelude.{List, [], ◌∷◌, ◌++◌, None}
use Rattle.wfe_core.specs.words.declared.layout.Layout.{Layout}
use Rattle.wfe_core.specs.words.declared.config.SchemeKind.TheVariants.{He}
use Rattle.wfe_core.specs.defs.Entry.{Entry}
use Rattle.wfe_core.specs.defs.declared.call.Answer.TheVariants as answers
use Rattle.wfe_core.specs.defs.declared.call.Call.TheVariants as calls
use Rattle.wfe_core.specs.defs.declared.call.ClockMove.TheVariants as moves
use Rattle.wfe_core.specs.defs.declared.event.Event.TheVariants as events
use Rattle.wfe_core.specs.defs.declared.event.Guard.TheVariants as guards
use Rattle.wfe_core.specs.defs.declared.event.Root.TheVariants as roots
use Rattle.wfe_core.specs.Guards.{from_to}
use Rattle.model_history.specs.History.{Item}
use Rattle.model_history.specs.Among.{call, said, setting, to_end}
use Rattle.law_worked.specs.Judges.Law.{Calls, Clears, Indexes, Copies, Reuse, Free, Placing, Order, Nexts, Retiring, Backs, Lists, Blocks, Reads, Due, Room, Eras, Moves, Advances, Births, Retires, Current, Single, Rising, Guards, Kinds, Throughout, Sources, Finds, Gots, Links, Behind, Bare, Rests, Map, Values, Emptied, Steps, Withdrawals, Tries, Raises, Hazards, Asks, CallSteps, Told, Reasons, Full, Lacks, Counted, Refusals, Clock, Repeats, Alone, Named, Ranges}
use Rattle.law_worked.specs.Refusals.{IsWorked, Row, row}

abbrev pub full_setting : Layout
full_setting = setting He 1 2 2 100 100 100

-- the same, but that the second version is the last
abbrev pub worn_setting : Layout
worn_setting = setting He 1 2 2 100 100 2

abbrev pub full_items : List Item
full_items = call 0 (calls.Put 7 70) ++ to_end 0 ++ call 0 (calls.Hold 7) ++ to_end 0 ++ call 0 (calls.Put 7 71) ++ to_end 0 ++ call 0 (calls.Put 7 72) ++ to_end 0 ++ call 0 calls.Release ++ to_end 0 ++ call 0 (calls.Put 7 72) ++ to_end 0

abbrev pub full : List Entry
full =
    said 0 (events.Begin (calls.Put 7 70))
    ∷ said 0 (events.Reserve (guards.Index 0 0) (from_to 1 1))
    ∷ said 0 (events.Null 0 4)
    ∷ said 0 (events.Give 0 1)
    ∷ said 0 (events.Link (roots.Bucket 0) 0)
    ∷ said 0 (events.Put 0 1 7 70)
    ∷ said 0 (events.Reserve (guards.Index 0 0) None)
    ∷ said 0 (events.End 13 (answers.Done 1 moves.Still))
    ∷ said 0 (events.Begin (calls.Hold 7))
    ∷ said 0 (events.Reserve (guards.Index 0 2) (from_to 1 1))
    ∷ said 0 (events.Held 2 0 4)
    ∷ said 0 (events.End 4 (answers.Holding 0))
    ∷ said 0 (events.Begin (calls.Put 7 71))
    ∷ said 0 (events.Reserve (guards.Index 0 0) (from_to 1 1))
    ∷ said 0 (events.Held 0 0 4)
    ∷ said 0 (events.Give 1 1)
    ∷ said 0 (events.Link (roots.Bucket 0) 1)
    ∷ said 0 (events.Cut 0)
    ∷ said 0 (events.Put 0 2 7 71)
    ∷ said 0 (events.Clear 0 0)
    ∷ said 0 (events.Reserve (guards.Index 0 0) None)
    ∷ said 0 (events.Retire 0 1 1)
    ∷ said 0 (events.End 20 (answers.Done 2 moves.Still))
    ∷ said 0 (events.Begin (calls.Put 7 72))
    ∷ said 0 (events.Reserve (guards.Index 0 0) (from_to 1 1))
    ∷ said 0 (events.Held 0 1 4)
    ∷ said 0 (events.Clear 0 1)
    ∷ said 0 (events.Reserve (guards.Index 0 0) None)
    ∷ said 0 (events.Era 2)
    ∷ said 0 (events.Read (guards.Index 0 0) None)
    ∷ said 0 (events.Read (guards.Index 0 1) None)
    ∷ said 0 (events.Read (guards.Index 0 2) (from_to 1 1))
    ∷ said 0 (events.Reserve (guards.Index 0 0) (from_to 2 2))
    ∷ said 0 (events.Held 0 1 4)
    ∷ said 0 (events.Clear 0 1)
    ∷ said 0 (events.Reserve (guards.Index 0 0) None)
    ∷ said 0 (events.End 27 answers.Full)
    ∷ said 0 (events.Begin calls.Release)
    ∷ said 0 (events.Clear 2 0)
    ∷ said 0 (events.Reserve (guards.Index 0 2) None)
    ∷ said 0 (events.End 1 answers.Released)
    ∷ said 0 (events.Begin (calls.Put 7 72))
    ∷ said 0 (events.Reserve (guards.Index 0 0) (from_to 2 2))
    ∷ said 0 (events.Held 0 1 4)
    ∷ said 0 (events.Clear 0 1)
    ∷ said 0 (events.Reserve (guards.Index 0 0) None)
    ∷ said 0 (events.Era 3)
    ∷ said 0 (events.Read (guards.Index 0 0) None)
    ∷ said 0 (events.Read (guards.Index 0 1) None)
    ∷ said 0 (events.Read (guards.Index 0 2) None)
    ∷ said 0 (events.Back 0)
    ∷ said 0 (events.Reserve (guards.Index 0 0) (from_to 3 3))
    ∷ said 0 (events.Held 0 1 4)
    ∷ said 0 (events.Give 0 3)
    ∷ said 0 (events.Link (roots.Bucket 0) 0)
    ∷ said 0 (events.Cut 1)
    ∷ said 0 (events.Put 0 3 7 72)
    ∷ said 0 (events.Clear 0 1)
    ∷ said 0 (events.Reserve (guards.Index 0 0) None)
    ∷ said 0 (events.Retire 1 1 3)
    ∷ said 0 (events.End 38 (answers.Done 3 moves.Still)) ∷ []

-- of each law the places at which it refuses a line that is dropped, told twice, told after the next one, altered, or slowed
abbrev pub full_table : List Row
full_table =
    row Calls (0 ∷ 7 ∷ 8 ∷ 11 ∷ 12 ∷ 22 ∷ 23 ∷ 36 ∷ 37 ∷ 40 ∷ 41 ∷ []) (0 ∷ 7 ∷ 8 ∷ 11 ∷ 12 ∷ 22 ∷ 23 ∷ 36 ∷ 37 ∷ 40 ∷ 41 ∷ 60 ∷ []) (0 ∷ 6 ∷ 7 ∷ 8 ∷ 10 ∷ 11 ∷ 12 ∷ 21 ∷ 22 ∷ 23 ∷ 35 ∷ 36 ∷ 37 ∷ 39 ∷ 40 ∷ 41 ∷ 59 ∷ []) [] []
    ∷ row Clears (10 ∷ 14 ∷ 25 ∷ 33 ∷ 43 ∷ 52 ∷ []) (19 ∷ 26 ∷ 34 ∷ 38 ∷ 44 ∷ 57 ∷ []) (25 ∷ 33 ∷ 43 ∷ []) (10 ∷ 14 ∷ 19 ∷ 25 ∷ 26 ∷ 33 ∷ 34 ∷ 38 ∷ 43 ∷ 44 ∷ 52 ∷ 57 ∷ []) []
    ∷ row Indexes (8 ∷ 37 ∷ []) [] (37 ∷ []) (8 ∷ 37 ∷ []) []
    ∷ row Copies [] [] [] [] []
    ∷ row Reuse (19 ∷ 38 ∷ []) [] [] (2 ∷ 10 ∷ 14 ∷ 19 ∷ 38 ∷ 53 ∷ []) []
    ∷ row Free (3 ∷ 50 ∷ []) (3 ∷ 15 ∷ 50 ∷ 53 ∷ []) [] (3 ∷ 15 ∷ 50 ∷ 53 ∷ []) []
    ∷ row Placing (3 ∷ 4 ∷ 15 ∷ 16 ∷ 53 ∷ 54 ∷ []) (3 ∷ 4 ∷ 15 ∷ 16 ∷ 53 ∷ 54 ∷ []) (3 ∷ 15 ∷ 53 ∷ []) (3 ∷ 4 ∷ 15 ∷ 16 ∷ 53 ∷ 54 ∷ []) []
    ∷ row Order (4 ∷ 5 ∷ 16 ∷ 17 ∷ 18 ∷ 54 ∷ 55 ∷ 56 ∷ []) (4 ∷ 5 ∷ 16 ∷ 17 ∷ 18 ∷ 54 ∷ 55 ∷ 56 ∷ []) (3 ∷ 4 ∷ 5 ∷ 15 ∷ 16 ∷ 17 ∷ 18 ∷ 53 ∷ 54 ∷ 55 ∷ 56 ∷ []) (4 ∷ 16 ∷ 17 ∷ 55 ∷ []) []
    ∷ row Nexts [] [] [] [] []
    ∷ row Retiring (17 ∷ 21 ∷ 55 ∷ 59 ∷ []) (17 ∷ 21 ∷ 55 ∷ 59 ∷ []) (21 ∷ 59 ∷ []) (17 ∷ 55 ∷ []) []
    ∷ row Backs (21 ∷ []) (50 ∷ []) [] (50 ∷ []) []
    ∷ row Lists [] [] [] [] []
    ∷ row Blocks (21 ∷ 29 ∷ 30 ∷ 31 ∷ 47 ∷ 48 ∷ 49 ∷ 50 ∷ []) (29 ∷ 30 ∷ 31 ∷ 47 ∷ 48 ∷ 49 ∷ 50 ∷ []) (28 ∷ 29 ∷ 30 ∷ 31 ∷ 46 ∷ 47 ∷ 48 ∷ 49 ∷ 50 ∷ []) (31 ∷ 47 ∷ 48 ∷ 49 ∷ 50 ∷ []) []
    ∷ row Reads (9 ∷ 27 ∷ 39 ∷ 45 ∷ []) [] [] (9 ∷ 27 ∷ 29 ∷ 30 ∷ 31 ∷ 39 ∷ 45 ∷ 47 ∷ 48 ∷ 49 ∷ []) []
    ∷ row Due (23 ∷ 41 ∷ []) (29 ∷ 30 ∷ 31 ∷ 47 ∷ 48 ∷ 49 ∷ []) [] [] []
    ∷ row Room (3 ∷ 15 ∷ []) [] [] (3 ∷ 15 ∷ []) []
    ∷ row Eras (28 ∷ []) (28 ∷ 46 ∷ []) [] (28 ∷ 46 ∷ []) []
    ∷ row Moves [] (28 ∷ 46 ∷ []) (28 ∷ 46 ∷ []) [] []
    ∷ row Advances [] [] [] [] []
    ∷ row Births (28 ∷ 46 ∷ []) [] [] [] []
    ∷ row Retires (3 ∷ 15 ∷ 17 ∷ 28 ∷ 46 ∷ 55 ∷ []) (28 ∷ 46 ∷ []) [] (3 ∷ 15 ∷ 17 ∷ 21 ∷ 50 ∷ 53 ∷ 55 ∷ 59 ∷ []) []
    ∷ row Current (28 ∷ 46 ∷ []) (28 ∷ []) [] (1 ∷ 9 ∷ 13 ∷ 24 ∷ 32 ∷ 39 ∷ 42 ∷ 45 ∷ 51 ∷ 58 ∷ []) []
    ∷ row Single [] [] [] [] []
    ∷ row Rising [] [] [] [] []
    ∷ row Guards [] [] [] [] []
    ∷ row Kinds [] [] [] [] []
    ∷ row Throughout (3 ∷ 9 ∷ 13 ∷ 15 ∷ 19 ∷ 24 ∷ 26 ∷ 32 ∷ 34 ∷ 38 ∷ 42 ∷ 44 ∷ 51 ∷ 57 ∷ []) [] (9 ∷ 13 ∷ 19 ∷ 24 ∷ 25 ∷ 26 ∷ 32 ∷ 33 ∷ 34 ∷ 38 ∷ 42 ∷ 43 ∷ 44 ∷ 51 ∷ 57 ∷ []) (2 ∷ 3 ∷ 9 ∷ 10 ∷ 14 ∷ 15 ∷ 19 ∷ 25 ∷ 26 ∷ 33 ∷ 34 ∷ 38 ∷ 43 ∷ 44 ∷ 50 ∷ 52 ∷ 57 ∷ []) []
    ∷ row Sources (0 ∷ 4 ∷ 16 ∷ 41 ∷ []) [] [] (2 ∷ 4 ∷ 10 ∷ 14 ∷ 16 ∷ 25 ∷ 33 ∷ 43 ∷ 52 ∷ []) []
    ∷ row Finds (2 ∷ 14 ∷ []) [] (11 ∷ 22 ∷ 40 ∷ []) (8 ∷ []) []
    ∷ row Gots [] [] [] [] []
    ∷ row Links (14 ∷ 16 ∷ 52 ∷ []) (4 ∷ 16 ∷ 54 ∷ []) [] (4 ∷ 14 ∷ 16 ∷ 52 ∷ []) []
    ∷ row Behind [] [] [] [] []
    ∷ row Bare (19 ∷ 34 ∷ 57 ∷ []) [] (33 ∷ []) (2 ∷ 14 ∷ 19 ∷ 25 ∷ 33 ∷ 34 ∷ 43 ∷ 52 ∷ 57 ∷ []) []
    ∷ row Rests (6 ∷ 9 ∷ 10 ∷ 20 ∷ 35 ∷ 38 ∷ 39 ∷ 58 ∷ []) [] (6 ∷ 10 ∷ 35 ∷ 39 ∷ []) (6 ∷ 10 ∷ 20 ∷ 35 ∷ 38 ∷ 39 ∷ 58 ∷ []) []
    ∷ row Map (5 ∷ 18 ∷ []) (5 ∷ 18 ∷ 56 ∷ []) [] [] []
    ∷ row Values [] [] [] [] []
    ∷ row Emptied [] [] [] [] []
    ∷ row Steps [] [] [] [] []
    ∷ row Withdrawals [] [] [] [] []
    ∷ row Tries (1 ∷ 6 ∷ 9 ∷ 13 ∷ 20 ∷ 24 ∷ 27 ∷ 32 ∷ 35 ∷ 42 ∷ 45 ∷ 51 ∷ []) (1 ∷ 9 ∷ 13 ∷ 24 ∷ 32 ∷ 42 ∷ 51 ∷ []) (1 ∷ 9 ∷ 13 ∷ 24 ∷ 32 ∷ 42 ∷ 51 ∷ []) (6 ∷ 20 ∷ 27 ∷ 35 ∷ 45 ∷ []) (2 ∷ 10 ∷ 14 ∷ 25 ∷ 33 ∷ 43 ∷ 52 ∷ [])
    ∷ row Raises [] [] [] [] []
    ∷ row Hazards [] [] [] [] []
    ∷ row Asks [] [] [] [] []
    ∷ row CallSteps (41 ∷ []) [] (36 ∷ []) [] (40 ∷ [])
    ∷ row Told (0 ∷ 5 ∷ 8 ∷ 12 ∷ 18 ∷ 37 ∷ 41 ∷ 56 ∷ []) (5 ∷ 18 ∷ 56 ∷ []) (7 ∷ 11 ∷ 22 ∷ 36 ∷ 40 ∷ []) (0 ∷ 5 ∷ 8 ∷ 12 ∷ 18 ∷ 37 ∷ 40 ∷ 41 ∷ 56 ∷ []) []
    ∷ row Reasons (10 ∷ 38 ∷ []) [] (10 ∷ []) (10 ∷ 11 ∷ 36 ∷ 38 ∷ []) []
    ∷ row Full (3 ∷ 15 ∷ 23 ∷ 29 ∷ 30 ∷ 31 ∷ []) (29 ∷ 30 ∷ 31 ∷ []) (36 ∷ []) (3 ∷ 15 ∷ []) []
    ∷ row Lacks [] [] (36 ∷ []) [] []
    ∷ row Counted (21 ∷ 23 ∷ 59 ∷ []) (21 ∷ 59 ∷ []) (21 ∷ 22 ∷ 59 ∷ []) [] []
    ∷ row Refusals (23 ∷ []) [] [] [] []
    ∷ row Clock [] [] [] (7 ∷ 22 ∷ 60 ∷ []) []
    ∷ row Repeats [] (25 ∷ 33 ∷ []) [] [] []
    ∷ row Alone (19 ∷ 26 ∷ 34 ∷ 44 ∷ []) (10 ∷ 14 ∷ 25 ∷ 33 ∷ 43 ∷ 52 ∷ []) (25 ∷ 33 ∷ 43 ∷ []) (2 ∷ []) []
    ∷ row Named [] [] [] [] []
    ∷ row Ranges [] [] [] [] [] ∷ []

abbrev pub FullWorked : Type 0
FullWorked = IsWorked full_setting full_items full full_table
