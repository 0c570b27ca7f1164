-- A scan keeps a row that another seat holds, and a later one gives it back: the record, and what the laws refuse of it once a line is changed.
use Rattle.std.specs.Prelude.{List, [], ◌∷◌, ◌++◌, None}
use Rattle.wfe_core.specs.words.declared.layout.Layout.{Layout}
use Rattle.wfe_core.specs.words.declared.config.SchemeKind.TheVariants.{He}
use Rattle.wfe_core.specs.defs.Entry.{Entry}
use Rattle.wfe_core.specs.defs.declared.call.Answer.TheVariants as answers
use Rattle.wfe_core.specs.defs.declared.call.Call.TheVariants as calls
use Rattle.wfe_core.specs.defs.declared.call.ClockMove.TheVariants as moves
use Rattle.wfe_core.specs.defs.declared.event.Event.TheVariants as events
use Rattle.wfe_core.specs.defs.declared.event.Guard.TheVariants as guards
use Rattle.wfe_core.specs.defs.declared.event.Root.TheVariants as roots
use Rattle.wfe_core.specs.Guards.{from_to}
use Rattle.model_history.specs.History.{Item}
use Rattle.model_history.specs.Among.{call, said, setting, to_end}
use Rattle.law_worked.specs.Judges.Law.{Calls, Clears, Indexes, Copies, Reuse, Free, Placing, Order, Nexts, Retiring, Backs, Lists, Blocks, Reads, Due, Room, Eras, Moves, Advances, Births, Retires, Current, Single, Rising, Guards, Kinds, Throughout, Sources, Finds, Gots, Links, Behind, Bare, Rests, Map, Values, Emptied, Steps, Withdrawals, Tries, Raises, Hazards, Asks, CallSteps, Told, Reasons, Full, Lacks, Counted, Refusals, Clock, Repeats, Alone, Named, Ranges}
use Rattle.law_worked.specs.Refusals.{IsWorked, Row, row}

abbrev pub kept_setting : Layout
kept_setting = setting He 2 8 2 1 100 100

abbrev pub kept_items : List Item
kept_items = call 0 (calls.Put 7 70) ++ to_end 0 ++ call 1 (calls.Hold 7) ++ to_end 1 ++ call 0 (calls.Put 7 71) ++ to_end 0 ++ call 1 calls.Release ++ to_end 1 ++ call 0 calls.Scan ++ to_end 0

abbrev pub kept : List Entry
kept =
    said 0 (events.Begin (calls.Put 7 70))
    ∷ said 0 (events.Reserve (guards.Index 0 0) (from_to 1 1))
    ∷ said 0 (events.Null 0 4)
    ∷ said 0 (events.Give 0 1)
    ∷ said 0 (events.Link (roots.Bucket 0) 0)
    ∷ said 0 (events.Put 0 1 7 70)
    ∷ said 0 (events.Reserve (guards.Index 0 0) None)
    ∷ said 0 (events.End 13 (answers.Done 1 moves.Still))
    ∷ said 1 (events.Begin (calls.Hold 7))
    ∷ said 1 (events.Reserve (guards.Index 1 2) (from_to 1 1))
    ∷ said 1 (events.Held 2 0 4)
    ∷ said 1 (events.End 4 (answers.Holding 0))
    ∷ said 0 (events.Begin (calls.Put 7 71))
    ∷ said 0 (events.Reserve (guards.Index 0 0) (from_to 1 1))
    ∷ said 0 (events.Held 0 0 4)
    ∷ said 0 (events.Give 1 1)
    ∷ said 0 (events.Link (roots.Bucket 0) 1)
    ∷ said 0 (events.Cut 0)
    ∷ said 0 (events.Put 0 2 7 71)
    ∷ said 0 (events.Clear 0 0)
    ∷ said 0 (events.Reserve (guards.Index 0 0) None)
    ∷ said 0 (events.Retire 0 1 1)
    ∷ said 0 (events.Era 2)
    ∷ said 0 (events.Read (guards.Index 0 0) None)
    ∷ said 0 (events.Read (guards.Index 0 1) None)
    ∷ said 0 (events.Read (guards.Index 0 2) None)
    ∷ said 0 (events.Read (guards.Index 1 0) None)
    ∷ said 0 (events.Read (guards.Index 1 1) None)
    ∷ said 0 (events.Read (guards.Index 1 2) (from_to 1 1))
    ∷ said 0 (events.End 28 (answers.Done 2 (moves.Moved 2)))
    ∷ said 1 (events.Begin calls.Release)
    ∷ said 1 (events.Clear 2 0)
    ∷ said 1 (events.Reserve (guards.Index 1 2) None)
    ∷ said 1 (events.End 1 answers.Released)
    ∷ said 0 (events.Begin calls.Scan)
    ∷ said 0 (events.Read (guards.Index 0 0) None)
    ∷ said 0 (events.Read (guards.Index 0 1) None)
    ∷ said 0 (events.Read (guards.Index 0 2) None)
    ∷ said 0 (events.Read (guards.Index 1 0) None)
    ∷ said 0 (events.Read (guards.Index 1 1) None)
    ∷ said 0 (events.Read (guards.Index 1 2) None)
    ∷ said 0 (events.Back 0)
    ∷ said 0 (events.End 7 (answers.Scanned 0 1)) ∷ []

-- of each law the places at which it refuses a line that is dropped, told twice, told after the next one, altered, or slowed
abbrev pub kept_table : List Row
kept_table =
    row Calls (0 ∷ 7 ∷ 8 ∷ 11 ∷ 12 ∷ 29 ∷ 30 ∷ 34 ∷ []) (0 ∷ 7 ∷ 8 ∷ 11 ∷ 12 ∷ 29 ∷ 30 ∷ 33 ∷ 34 ∷ 42 ∷ []) (0 ∷ 6 ∷ 8 ∷ 10 ∷ 12 ∷ 28 ∷ 30 ∷ 32 ∷ 34 ∷ 41 ∷ []) [] []
    ∷ row Clears (10 ∷ 14 ∷ []) (19 ∷ 31 ∷ []) [] (10 ∷ 14 ∷ 19 ∷ 31 ∷ []) []
    ∷ row Indexes (8 ∷ []) [] [] (8 ∷ 30 ∷ []) []
    ∷ row Copies [] [] [] [] []
    ∷ row Reuse (19 ∷ 31 ∷ []) [] [] (2 ∷ 10 ∷ 14 ∷ 19 ∷ 31 ∷ []) []
    ∷ row Free (3 ∷ []) (3 ∷ 15 ∷ 41 ∷ []) [] (3 ∷ []) []
    ∷ row Placing (3 ∷ 4 ∷ 12 ∷ 15 ∷ 16 ∷ []) (3 ∷ 4 ∷ 15 ∷ 16 ∷ []) (3 ∷ 15 ∷ []) (3 ∷ 4 ∷ 15 ∷ 16 ∷ []) []
    ∷ row Order (4 ∷ 5 ∷ 16 ∷ 17 ∷ 18 ∷ []) (4 ∷ 5 ∷ 16 ∷ 17 ∷ 18 ∷ []) (3 ∷ 4 ∷ 5 ∷ 15 ∷ 16 ∷ 17 ∷ 18 ∷ []) (4 ∷ 17 ∷ []) []
    ∷ row Nexts [] [] [] [] []
    ∷ row Retiring (17 ∷ 21 ∷ []) (17 ∷ 21 ∷ []) [] (17 ∷ []) []
    ∷ row Backs (21 ∷ []) (41 ∷ []) [] (41 ∷ []) []
    ∷ row Lists [] [] [] [] []
    ∷ row Blocks (21 ∷ 23 ∷ 24 ∷ 25 ∷ 26 ∷ 27 ∷ 28 ∷ 35 ∷ 36 ∷ 37 ∷ 38 ∷ 39 ∷ 40 ∷ 41 ∷ []) (23 ∷ 24 ∷ 25 ∷ 26 ∷ 27 ∷ 28 ∷ 35 ∷ 36 ∷ 37 ∷ 38 ∷ 39 ∷ 40 ∷ 41 ∷ []) (22 ∷ 23 ∷ 24 ∷ 25 ∷ 26 ∷ 27 ∷ 28 ∷ 34 ∷ 35 ∷ 36 ∷ 37 ∷ 38 ∷ 39 ∷ 40 ∷ 41 ∷ []) (28 ∷ 35 ∷ 36 ∷ 37 ∷ 38 ∷ 39 ∷ 40 ∷ 41 ∷ []) []
    ∷ row Reads (9 ∷ 20 ∷ 32 ∷ []) [] [] (9 ∷ 20 ∷ 23 ∷ 24 ∷ 25 ∷ 26 ∷ 27 ∷ 28 ∷ 32 ∷ 35 ∷ 36 ∷ 37 ∷ 38 ∷ 39 ∷ 40 ∷ []) []
    ∷ row Due (21 ∷ 34 ∷ []) (23 ∷ 24 ∷ 25 ∷ 26 ∷ 27 ∷ 28 ∷ 35 ∷ 36 ∷ 37 ∷ 38 ∷ 39 ∷ 40 ∷ []) (34 ∷ []) (34 ∷ []) []
    ∷ row Room (21 ∷ []) [] [] [] []
    ∷ row Eras [] (22 ∷ []) [] (22 ∷ []) []
    ∷ row Moves [] (22 ∷ []) (22 ∷ []) [] []
    ∷ row Advances [] [] [] [] []
    ∷ row Births [] [] [] [] []
    ∷ row Retires (3 ∷ 17 ∷ []) [] [] (3 ∷ 17 ∷ 21 ∷ []) []
    ∷ row Current [] [] [] (1 ∷ 9 ∷ 13 ∷ 32 ∷ []) []
    ∷ row Single [] [] [] [] []
    ∷ row Rising [] [] [] [] []
    ∷ row Guards [] [] [] [] []
    ∷ row Kinds [] [] [] [] []
    ∷ row Throughout (3 ∷ 9 ∷ 13 ∷ 19 ∷ 31 ∷ []) [] (9 ∷ 13 ∷ 19 ∷ 31 ∷ []) (2 ∷ 3 ∷ 9 ∷ 10 ∷ 14 ∷ 19 ∷ 31 ∷ []) []
    ∷ row Sources (0 ∷ 4 ∷ 8 ∷ []) [] [] (2 ∷ 4 ∷ 10 ∷ 14 ∷ []) []
    ∷ row Finds (2 ∷ 14 ∷ []) [] [] (8 ∷ []) []
    ∷ row Gots [] [] [] [] []
    ∷ row Links (14 ∷ []) (4 ∷ 16 ∷ []) [] (4 ∷ 14 ∷ []) []
    ∷ row Behind [] [] [] [] []
    ∷ row Bare (19 ∷ []) [] [] (2 ∷ 14 ∷ 19 ∷ []) []
    ∷ row Rests (6 ∷ 9 ∷ 10 ∷ 20 ∷ 31 ∷ 32 ∷ []) [] (6 ∷ 10 ∷ 32 ∷ []) (6 ∷ 10 ∷ 20 ∷ 31 ∷ 32 ∷ []) []
    ∷ row Map (5 ∷ []) (5 ∷ 18 ∷ []) [] [] []
    ∷ row Values [] [] [] [] []
    ∷ row Emptied [] [] [] [] []
    ∷ row Steps [] [] [] [] []
    ∷ row Withdrawals [] [] [] [] []
    ∷ row Tries (1 ∷ 6 ∷ 9 ∷ 13 ∷ []) (1 ∷ 9 ∷ 13 ∷ []) (1 ∷ 9 ∷ 13 ∷ []) (6 ∷ []) (2 ∷ 10 ∷ 14 ∷ [])
    ∷ row Raises [] [] [] [] []
    ∷ row Hazards [] [] [] [] []
    ∷ row Asks [] [] [] [] []
    ∷ row CallSteps (41 ∷ []) (41 ∷ []) (41 ∷ []) (34 ∷ []) (33 ∷ 42 ∷ [])
    ∷ row Told (0 ∷ 5 ∷ 8 ∷ 12 ∷ 18 ∷ 30 ∷ 34 ∷ []) (5 ∷ 18 ∷ []) [] (0 ∷ 5 ∷ 8 ∷ 12 ∷ 18 ∷ 30 ∷ 33 ∷ 34 ∷ []) []
    ∷ row Reasons (10 ∷ 31 ∷ 41 ∷ []) (41 ∷ []) (10 ∷ 41 ∷ []) (10 ∷ 11 ∷ 31 ∷ 41 ∷ 42 ∷ []) []
    ∷ row Full [] [] [] [] []
    ∷ row Lacks [] [] [] [] []
    ∷ row Counted (21 ∷ 34 ∷ []) (21 ∷ []) [] [] []
    ∷ row Refusals [] [] [] [] []
    ∷ row Clock (21 ∷ 22 ∷ []) [] (21 ∷ 22 ∷ []) (7 ∷ 22 ∷ 29 ∷ []) []
    ∷ row Repeats [] [] [] [] []
    ∷ row Alone [] (10 ∷ 14 ∷ []) [] (2 ∷ []) []
    ∷ row Named [] [] [] [] []
    ∷ row Ranges [] [] [] [] [] ∷ []

abbrev pub KeptWorked : Type 0
KeptWorked = IsWorked kept_setting kept_items kept kept_table
