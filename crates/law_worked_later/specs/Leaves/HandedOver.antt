-- A seat lets go of two rows and leaves; another seat, which came for its list too early, takes it over, gives its row back, and finds it taken
-- over: the record, and what the laws refuse of it once a line is changed.
use Rattle.std.specs.Prelude.{List, [], ◌∷◌, ◌++◌, None}
use Rattle.wfe_core.specs.words.declared.layout.Layout.{Layout}
use Rattle.wfe_core.specs.words.declared.config.SchemeKind.TheVariants.{He}
use Rattle.wfe_core.specs.defs.Entry.{Entry}
use Rattle.wfe_core.specs.defs.declared.call.Answer.TheVariants as answers
use Rattle.wfe_core.specs.defs.declared.call.Call.TheVariants as calls
use Rattle.wfe_core.specs.defs.declared.call.ClockMove.TheVariants as moves
use Rattle.wfe_core.specs.defs.declared.event.Event.TheVariants as events
use Rattle.wfe_core.specs.defs.declared.event.Guard.TheVariants as guards
use Rattle.wfe_core.specs.defs.declared.event.Root.TheVariants as roots
use Rattle.wfe_core.specs.Guards.{from_to}
use Rattle.model_history.specs.History.{Item}
use Rattle.model_history.specs.Among.{call, said, to_end}
use Rattle.law_worked.specs.Judges.Law.{Calls, Clears, Indexes, Copies, Reuse, Free, Placing, Order, Nexts, Retiring, Backs, Lists, Blocks, Reads, Due, Room, Eras, Moves, Advances, Births, Retires, Current, Single, Rising, Guards, Kinds, Throughout, Sources, Finds, Gots, Links, Behind, Bare, Rests, Map, Values, Emptied, Steps, Withdrawals, Tries, Raises, Hazards, Asks, CallSteps, Told, Reasons, Full, Lacks, Counted, Refusals, Clock, Repeats, Alone, Named, Ranges}
use Rattle.law_worked.specs.Refusals.{IsWorked, Row, row}
use Rattle.law_worked_later.specs.Leaves.Settings.{table}

abbrev pub handed_over_setting : Layout
handed_over_setting = table He 2 4 8 2 2 100 100 6

abbrev pub handed_over_items : List Item
handed_over_items = call 1 (calls.Adopt 0) ++ to_end 1 ++ call 0 (calls.Put 7 70) ++ to_end 0 ++ call 0 (calls.Put 7 71) ++ to_end 0 ++ call 0 (calls.Hold 7) ++ to_end 0 ++ call 0 (calls.Copy 2 3) ++ to_end 0 ++ call 0 calls.Leave ++ to_end 0 ++ call 1 (calls.Adopt 0) ++ to_end 1 ++ call 1 calls.Scan ++ to_end 1 ++ call 1 (calls.Adopt 0) ++ to_end 1

abbrev pub handed_over : List Entry
handed_over =
    said 1 (events.Begin (calls.Adopt 0))
    ∷ said 1 (events.End 1 answers.NotLeft)
    ∷ said 0 (events.Begin (calls.Put 7 70))
    ∷ said 0 (events.Reserve (guards.Index 0 0) (from_to 1 1))
    ∷ said 0 (events.Null 0 4)
    ∷ said 0 (events.Give 0 1)
    ∷ said 0 (events.Link (roots.Bucket 0) 0)
    ∷ said 0 (events.Put 0 1 7 70)
    ∷ said 0 (events.Reserve (guards.Index 0 0) None)
    ∷ said 0 (events.End 13 (answers.Done 1 moves.Still))
    ∷ said 0 (events.Begin (calls.Put 7 71))
    ∷ said 0 (events.Reserve (guards.Index 0 0) (from_to 1 1))
    ∷ said 0 (events.Held 0 0 4)
    ∷ said 0 (events.Give 1 1)
    ∷ said 0 (events.Link (roots.Bucket 0) 1)
    ∷ said 0 (events.Cut 0)
    ∷ said 0 (events.Put 0 2 7 71)
    ∷ said 0 (events.Clear 0 0)
    ∷ said 0 (events.Reserve (guards.Index 0 0) None)
    ∷ said 0 (events.Retire 0 1 1)
    ∷ said 0 (events.End 20 (answers.Done 2 moves.Still))
    ∷ said 0 (events.Begin (calls.Hold 7))
    ∷ said 0 (events.Reserve (guards.Index 0 2) (from_to 1 1))
    ∷ said 0 (events.Held 2 1 4)
    ∷ said 0 (events.End 4 (answers.Holding 1))
    ∷ said 0 (events.Begin (calls.Copy 2 3))
    ∷ said 0 (events.Reserve (guards.Index 0 3) (from_to 1 1))
    ∷ said 0 (events.Copied 2 3 1)
    ∷ said 0 (events.End 2 (answers.Copied 1))
    ∷ said 0 (events.Begin calls.Leave)
    ∷ said 0 (events.Clear 2 1)
    ∷ said 0 (events.Reserve (guards.Index 0 2) None)
    ∷ said 0 (events.Clear 3 1)
    ∷ said 0 (events.Reserve (guards.Index 0 3) None)
    ∷ said 0 (events.Left 1)
    ∷ said 0 (events.End 3 (answers.Left 1))
    ∷ said 1 (events.Begin (calls.Adopt 0))
    ∷ said 1 (events.Adopted 0 1)
    ∷ said 1 (events.End 2 (answers.Adopted 1))
    ∷ said 1 (events.Begin calls.Scan)
    ∷ said 1 (events.Read (guards.Index 0 0) None)
    ∷ said 1 (events.Read (guards.Index 0 1) None)
    ∷ said 1 (events.Read (guards.Index 0 2) None)
    ∷ said 1 (events.Read (guards.Index 0 3) None)
    ∷ said 1 (events.Read (guards.Index 1 0) None)
    ∷ said 1 (events.Read (guards.Index 1 1) None)
    ∷ said 1 (events.Read (guards.Index 1 2) None)
    ∷ said 1 (events.Read (guards.Index 1 3) None)
    ∷ said 1 (events.Back 0)
    ∷ said 1 (events.End 9 (answers.Scanned 0 1))
    ∷ said 1 (events.Begin (calls.Adopt 0))
    ∷ said 1 (events.End 1 answers.AdoptedBefore) ∷ []

-- of each law the places at which it refuses a line that is dropped, told twice, told after the next one, altered, or slowed
abbrev pub handed_over_table : List Row
handed_over_table =
    row Calls (0 ∷ 1 ∷ 2 ∷ 9 ∷ 10 ∷ 20 ∷ 21 ∷ 24 ∷ 25 ∷ 28 ∷ 29 ∷ 36 ∷ 38 ∷ 39 ∷ 49 ∷ 50 ∷ []) (0 ∷ 1 ∷ 2 ∷ 9 ∷ 10 ∷ 20 ∷ 21 ∷ 24 ∷ 25 ∷ 28 ∷ 29 ∷ 35 ∷ 36 ∷ 38 ∷ 39 ∷ 49 ∷ 50 ∷ 51 ∷ []) (0 ∷ 2 ∷ 8 ∷ 9 ∷ 10 ∷ 19 ∷ 20 ∷ 21 ∷ 23 ∷ 24 ∷ 25 ∷ 27 ∷ 28 ∷ 29 ∷ 34 ∷ 36 ∷ 37 ∷ 38 ∷ 39 ∷ 48 ∷ 49 ∷ 50 ∷ []) [] []
    ∷ row Clears (12 ∷ 23 ∷ 27 ∷ []) (17 ∷ 30 ∷ 32 ∷ []) [] (12 ∷ 17 ∷ 23 ∷ 27 ∷ 30 ∷ 32 ∷ []) []
    ∷ row Indexes (21 ∷ 29 ∷ []) [] (29 ∷ []) (21 ∷ 29 ∷ []) []
    ∷ row Copies (23 ∷ 25 ∷ []) (27 ∷ []) [] (23 ∷ 25 ∷ 27 ∷ []) []
    ∷ row Reuse (17 ∷ []) [] [] (4 ∷ 12 ∷ 17 ∷ []) []
    ∷ row Free (5 ∷ []) (5 ∷ 13 ∷ 48 ∷ []) [] (5 ∷ []) []
    ∷ row Placing (5 ∷ 6 ∷ 10 ∷ 13 ∷ 14 ∷ []) (5 ∷ 6 ∷ 13 ∷ 14 ∷ []) (5 ∷ 13 ∷ []) (5 ∷ 6 ∷ 13 ∷ 14 ∷ []) []
    ∷ row Order (6 ∷ 7 ∷ 14 ∷ 15 ∷ 16 ∷ []) (6 ∷ 7 ∷ 14 ∷ 15 ∷ 16 ∷ []) (5 ∷ 6 ∷ 7 ∷ 13 ∷ 14 ∷ 15 ∷ 16 ∷ []) (6 ∷ 15 ∷ []) []
    ∷ row Nexts [] [] [] [] []
    ∷ row Retiring (15 ∷ 19 ∷ []) (15 ∷ 19 ∷ []) (19 ∷ []) (15 ∷ []) []
    ∷ row Backs (19 ∷ 37 ∷ []) (48 ∷ []) [] (48 ∷ []) []
    ∷ row Lists (19 ∷ 29 ∷ 34 ∷ []) (19 ∷ 37 ∷ []) [] (29 ∷ 34 ∷ 36 ∷ 37 ∷ []) []
    ∷ row Blocks (19 ∷ 37 ∷ 40 ∷ 41 ∷ 42 ∷ 43 ∷ 44 ∷ 45 ∷ 46 ∷ 47 ∷ 48 ∷ []) (40 ∷ 41 ∷ 42 ∷ 43 ∷ 44 ∷ 45 ∷ 46 ∷ 47 ∷ 48 ∷ []) (39 ∷ 40 ∷ 41 ∷ 42 ∷ 43 ∷ 44 ∷ 45 ∷ 46 ∷ 47 ∷ 48 ∷ []) (40 ∷ 41 ∷ 42 ∷ 43 ∷ 44 ∷ 45 ∷ 46 ∷ 47 ∷ 48 ∷ []) []
    ∷ row Reads (18 ∷ 31 ∷ 33 ∷ []) [] [] (18 ∷ 31 ∷ 33 ∷ 40 ∷ 41 ∷ 42 ∷ 43 ∷ 44 ∷ 45 ∷ 46 ∷ 47 ∷ []) []
    ∷ row Due (39 ∷ []) (19 ∷ 40 ∷ 41 ∷ 42 ∷ 43 ∷ 44 ∷ 45 ∷ 46 ∷ 47 ∷ []) (38 ∷ 39 ∷ []) (29 ∷ 39 ∷ []) []
    ∷ row Room [] [] [] [] []
    ∷ row Eras [] [] [] [] []
    ∷ row Moves [] [] [] [] []
    ∷ row Advances [] [] [] [] []
    ∷ row Births [] [] [] [] []
    ∷ row Retires (5 ∷ 15 ∷ []) [] [] (5 ∷ 15 ∷ 19 ∷ []) []
    ∷ row Current [] [] [] (3 ∷ 11 ∷ 22 ∷ 26 ∷ []) []
    ∷ row Single [] [] [] [] []
    ∷ row Rising [] [] [] [] []
    ∷ row Guards [] [] [] [] []
    ∷ row Kinds [] [] [] [] []
    ∷ row Throughout (5 ∷ 11 ∷ 13 ∷ 17 ∷ 22 ∷ 26 ∷ 30 ∷ 32 ∷ []) [] (11 ∷ 17 ∷ 22 ∷ 26 ∷ 30 ∷ 32 ∷ []) (4 ∷ 5 ∷ 12 ∷ 13 ∷ 17 ∷ 23 ∷ 27 ∷ 30 ∷ 32 ∷ []) []
    ∷ row Sources (2 ∷ 6 ∷ 14 ∷ []) [] [] (4 ∷ 6 ∷ 12 ∷ 14 ∷ 23 ∷ []) []
    ∷ row Finds (4 ∷ 12 ∷ []) [] (9 ∷ []) (21 ∷ []) []
    ∷ row Gots [] [] [] [] []
    ∷ row Links (12 ∷ []) (6 ∷ 14 ∷ []) [] (6 ∷ 12 ∷ []) []
    ∷ row Behind [] [] [] [] []
    ∷ row Bare (17 ∷ []) [] [] (4 ∷ 12 ∷ 17 ∷ []) []
    ∷ row Rests (8 ∷ 18 ∷ 22 ∷ 23 ∷ 26 ∷ 27 ∷ 30 ∷ 31 ∷ 32 ∷ 33 ∷ []) [] (8 ∷ 23 ∷ 27 ∷ []) (8 ∷ 18 ∷ 23 ∷ 27 ∷ 30 ∷ 31 ∷ 32 ∷ 33 ∷ []) []
    ∷ row Map (7 ∷ []) (7 ∷ 16 ∷ []) [] [] []
    ∷ row Values [] [] [] [] []
    ∷ row Emptied [] [] [] [] []
    ∷ row Steps [] [] [] [] []
    ∷ row Withdrawals [] [] [] [] []
    ∷ row Tries (3 ∷ 8 ∷ 11 ∷ 22 ∷ []) (3 ∷ 11 ∷ 22 ∷ []) (3 ∷ 11 ∷ 22 ∷ []) (8 ∷ []) (4 ∷ 12 ∷ 23 ∷ [])
    ∷ row Raises [] [] [] [] []
    ∷ row Hazards [] [] [] [] []
    ∷ row Asks [] [] [] [] []
    ∷ row CallSteps (29 ∷ 48 ∷ 50 ∷ []) (48 ∷ []) (24 ∷ 38 ∷ 48 ∷ 50 ∷ []) (29 ∷ 39 ∷ []) (28 ∷ 49 ∷ [])
    ∷ row Told (0 ∷ 2 ∷ 7 ∷ 10 ∷ 16 ∷ 21 ∷ 25 ∷ 27 ∷ 29 ∷ 34 ∷ 37 ∷ 39 ∷ 50 ∷ []) (7 ∷ 16 ∷ 27 ∷ 34 ∷ 37 ∷ []) (0 ∷ 9 ∷ 20 ∷ 24 ∷ 27 ∷ 28 ∷ 34 ∷ 36 ∷ 37 ∷ 38 ∷ 49 ∷ 50 ∷ []) (2 ∷ 7 ∷ 10 ∷ 16 ∷ 21 ∷ 25 ∷ 27 ∷ 28 ∷ 29 ∷ 34 ∷ 35 ∷ 36 ∷ 37 ∷ 38 ∷ 39 ∷ []) []
    ∷ row Reasons (17 ∷ 23 ∷ 27 ∷ 30 ∷ 32 ∷ 37 ∷ 48 ∷ []) (48 ∷ []) (23 ∷ 27 ∷ 48 ∷ []) (1 ∷ 12 ∷ 17 ∷ 23 ∷ 24 ∷ 25 ∷ 27 ∷ 28 ∷ 30 ∷ 32 ∷ 48 ∷ 49 ∷ 50 ∷ 51 ∷ []) []
    ∷ row Full [] [] [] [] []
    ∷ row Lacks [] [] [] [] []
    ∷ row Counted (19 ∷ 21 ∷ []) (19 ∷ []) (19 ∷ 20 ∷ []) [] []
    ∷ row Refusals [] [] [] [] []
    ∷ row Clock [] (19 ∷ []) [] (9 ∷ 20 ∷ []) []
    ∷ row Repeats [] [] [] [] []
    ∷ row Alone [] (12 ∷ 23 ∷ 27 ∷ []) [] (4 ∷ []) []
    ∷ row Named [] [] [] [] []
    ∷ row Ranges [] [] [] [] [] ∷ []

abbrev pub HandedOverWorked : Type 0
HandedOverWorked = IsWorked handed_over_setting handed_over_items handed_over handed_over_table
