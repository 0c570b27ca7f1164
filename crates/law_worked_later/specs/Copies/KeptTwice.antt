-- Under 2GE a row stands at two indexes under one interval, which stays until the second one is dropped: the record, and what the laws refuse of
-- it once a line is changed.
use Rattle.std.specs.Prelude.{List, [], ◌∷◌, ◌++◌, None}
use Rattle.wfe_core.specs.words.declared.layout.Layout.{Layout}
use Rattle.wfe_core.specs.words.declared.config.SchemeKind.TheVariants.{Ibr}
use Rattle.wfe_core.specs.defs.Entry.{Entry}
use Rattle.wfe_core.specs.defs.declared.call.Answer.TheVariants as answers
use Rattle.wfe_core.specs.defs.declared.call.Call.TheVariants as calls
use Rattle.wfe_core.specs.defs.declared.call.ClockMove.TheVariants as moves
use Rattle.wfe_core.specs.defs.declared.event.Event.TheVariants as events
use Rattle.wfe_core.specs.defs.declared.event.Guard.TheVariants as guards
use Rattle.wfe_core.specs.defs.declared.event.Root.TheVariants as roots
use Rattle.wfe_core.specs.Guards.{from_to}
use Rattle.model_history.specs.History.{Item}
use Rattle.model_history.specs.Among.{call, said, to_end}
use Rattle.law_worked.specs.Judges.Law.{Calls, Clears, Indexes, Copies, Reuse, Free, Placing, Order, Nexts, Retiring, Backs, Lists, Blocks, Reads, Due, Room, Eras, Moves, Advances, Births, Retires, Current, Single, Rising, Guards, Kinds, Throughout, Sources, Finds, Gots, Links, Behind, Bare, Rests, Map, Values, Emptied, Steps, Withdrawals, Tries, Raises, Hazards, Asks, CallSteps, Told, Reasons, Full, Lacks, Counted, Refusals, Clock, Repeats, Alone, Named, Ranges}
use Rattle.law_worked.specs.Refusals.{IsWorked, Row, row}
use Rattle.law_worked_later.specs.Copies.Settings.{table}

abbrev pub kept_twice_setting : Layout
kept_twice_setting = table Ibr 2 4 8 2 1 100 100 6

abbrev pub kept_twice_items : List Item
kept_twice_items = call 0 (calls.Put 7 70) ++ to_end 0 ++ call 1 (calls.Hold 7) ++ to_end 1 ++ call 1 (calls.Copy 2 3) ++ to_end 1 ++ call 0 (calls.Put 7 71) ++ to_end 0 ++ call 1 calls.Release ++ to_end 1 ++ call 1 (calls.Look 3 8) ++ to_end 1 ++ call 1 (calls.DropIndex 3) ++ to_end 1 ++ call 1 (calls.Copy 2 3) ++ to_end 1 ++ call 0 calls.Scan ++ to_end 0

abbrev pub kept_twice : List Entry
kept_twice =
    said 0 (events.Begin (calls.Put 7 70))
    ∷ said 0 (events.Reserve (guards.Whole 0) (from_to 1 1))
    ∷ said 0 (events.Null 0 2)
    ∷ said 0 (events.Give 0 1)
    ∷ said 0 (events.Link (roots.Bucket 0) 0)
    ∷ said 0 (events.Put 0 1 7 70)
    ∷ said 0 (events.Reserve (guards.Whole 0) None)
    ∷ said 0 (events.End 13 (answers.Done 1 moves.Still))
    ∷ said 1 (events.Begin (calls.Hold 7))
    ∷ said 1 (events.Reserve (guards.Whole 1) (from_to 1 1))
    ∷ said 1 (events.Held 2 0 2)
    ∷ said 1 (events.End 4 (answers.Holding 0))
    ∷ said 1 (events.Begin (calls.Copy 2 3))
    ∷ said 1 (events.Copied 2 3 0)
    ∷ said 1 (events.End 1 (answers.Copied 0))
    ∷ said 0 (events.Begin (calls.Put 7 71))
    ∷ said 0 (events.Reserve (guards.Whole 0) (from_to 1 1))
    ∷ said 0 (events.Held 0 0 2)
    ∷ said 0 (events.Give 1 1)
    ∷ said 0 (events.Link (roots.Bucket 0) 1)
    ∷ said 0 (events.Cut 0)
    ∷ said 0 (events.Put 0 2 7 71)
    ∷ said 0 (events.Clear 0 0)
    ∷ said 0 (events.Reserve (guards.Whole 0) None)
    ∷ said 0 (events.Retire 0 1 1)
    ∷ said 0 (events.Era 2)
    ∷ said 0 (events.Read (guards.Whole 0) None)
    ∷ said 0 (events.Read (guards.Whole 1) (from_to 1 1))
    ∷ said 0 (events.End 24 (answers.Done 2 (moves.Moved 2)))
    ∷ said 1 (events.Begin calls.Release)
    ∷ said 1 (events.Clear 2 0)
    ∷ said 1 (events.End 1 answers.Released)
    ∷ said 1 (events.Begin (calls.Look 3 8))
    ∷ said 1 (events.End 3 (answers.Looked 0 1 None))
    ∷ said 1 (events.Begin (calls.DropIndex 3))
    ∷ said 1 (events.Clear 3 0)
    ∷ said 1 (events.Reserve (guards.Whole 1) None)
    ∷ said 1 (events.End 1 answers.Dropped)
    ∷ said 1 (events.Begin (calls.Copy 2 3))
    ∷ said 1 (events.End 1 answers.Nothing)
    ∷ said 0 (events.Begin calls.Scan)
    ∷ said 0 (events.Read (guards.Whole 0) None)
    ∷ said 0 (events.Read (guards.Whole 1) None)
    ∷ said 0 (events.Back 0)
    ∷ said 0 (events.End 3 (answers.Scanned 0 1)) ∷ []

-- of each law the places at which it refuses a line that is dropped, told twice, told after the next one, altered, or slowed
abbrev pub kept_twice_table : List Row
kept_twice_table =
    row Calls (0 ∷ 7 ∷ 8 ∷ 11 ∷ 12 ∷ 14 ∷ 15 ∷ 28 ∷ 29 ∷ 31 ∷ 32 ∷ 33 ∷ 34 ∷ 37 ∷ 38 ∷ 40 ∷ []) (0 ∷ 7 ∷ 8 ∷ 11 ∷ 12 ∷ 14 ∷ 15 ∷ 28 ∷ 29 ∷ 31 ∷ 32 ∷ 33 ∷ 34 ∷ 37 ∷ 38 ∷ 39 ∷ 40 ∷ 44 ∷ []) (0 ∷ 6 ∷ 8 ∷ 10 ∷ 11 ∷ 12 ∷ 13 ∷ 15 ∷ 27 ∷ 29 ∷ 30 ∷ 31 ∷ 32 ∷ 33 ∷ 34 ∷ 36 ∷ 37 ∷ 38 ∷ 40 ∷ 43 ∷ []) [] []
    ∷ row Clears (10 ∷ 13 ∷ 17 ∷ []) (22 ∷ 30 ∷ 35 ∷ []) [] (10 ∷ 13 ∷ 17 ∷ 22 ∷ 30 ∷ 35 ∷ []) []
    ∷ row Indexes (8 ∷ 29 ∷ 34 ∷ []) [] (29 ∷ 34 ∷ []) (8 ∷ 29 ∷ 34 ∷ []) []
    ∷ row Copies (10 ∷ 12 ∷ []) (13 ∷ []) (12 ∷ []) (10 ∷ 12 ∷ 13 ∷ []) []
    ∷ row Reuse (22 ∷ 30 ∷ 35 ∷ []) [] [] (2 ∷ 10 ∷ 13 ∷ 17 ∷ 22 ∷ 30 ∷ 35 ∷ []) []
    ∷ row Free (3 ∷ []) (3 ∷ 18 ∷ 43 ∷ []) [] (3 ∷ []) []
    ∷ row Placing (3 ∷ 4 ∷ 15 ∷ 18 ∷ 19 ∷ []) (3 ∷ 4 ∷ 18 ∷ 19 ∷ []) (3 ∷ 18 ∷ []) (3 ∷ 4 ∷ 18 ∷ 19 ∷ []) []
    ∷ row Order (4 ∷ 5 ∷ 19 ∷ 20 ∷ 21 ∷ []) (4 ∷ 5 ∷ 19 ∷ 20 ∷ 21 ∷ []) (3 ∷ 4 ∷ 5 ∷ 18 ∷ 19 ∷ 20 ∷ 21 ∷ []) (4 ∷ 20 ∷ []) []
    ∷ row Nexts [] [] [] [] []
    ∷ row Retiring (20 ∷ 24 ∷ []) (20 ∷ 24 ∷ []) [] (20 ∷ []) []
    ∷ row Backs (24 ∷ []) (43 ∷ []) [] (43 ∷ []) []
    ∷ row Lists [] [] [] [] []
    ∷ row Blocks (24 ∷ 26 ∷ 27 ∷ 41 ∷ 42 ∷ 43 ∷ []) (26 ∷ 27 ∷ 41 ∷ 42 ∷ 43 ∷ []) (25 ∷ 26 ∷ 27 ∷ 40 ∷ 41 ∷ 42 ∷ 43 ∷ []) (27 ∷ 41 ∷ 42 ∷ 43 ∷ []) []
    ∷ row Reads (9 ∷ 23 ∷ 36 ∷ []) [] [] (9 ∷ 23 ∷ 26 ∷ 27 ∷ 36 ∷ 41 ∷ 42 ∷ []) []
    ∷ row Due (24 ∷ 40 ∷ []) (26 ∷ 27 ∷ 41 ∷ 42 ∷ []) (40 ∷ []) (40 ∷ []) []
    ∷ row Room (24 ∷ []) [] [] [] []
    ∷ row Eras [] (25 ∷ []) [] (25 ∷ []) []
    ∷ row Moves [] (25 ∷ []) (25 ∷ []) [] []
    ∷ row Advances [] [] [] [] []
    ∷ row Births [] [] [] [] []
    ∷ row Retires (3 ∷ 20 ∷ []) [] [] (3 ∷ 20 ∷ 24 ∷ []) []
    ∷ row Current [] [] [] (1 ∷ 9 ∷ 16 ∷ 36 ∷ []) []
    ∷ row Single [] [] [] [] []
    ∷ row Rising (6 ∷ []) (1 ∷ 9 ∷ 16 ∷ []) [] (6 ∷ 23 ∷ 36 ∷ []) []
    ∷ row Guards [] [] [] [] []
    ∷ row Kinds [] [] [] [] []
    ∷ row Throughout (3 ∷ 9 ∷ 16 ∷ 22 ∷ 30 ∷ 35 ∷ []) [] (9 ∷ 16 ∷ 22 ∷ 35 ∷ []) (2 ∷ 3 ∷ 9 ∷ 10 ∷ 13 ∷ 17 ∷ 22 ∷ 30 ∷ 35 ∷ []) []
    ∷ row Sources (0 ∷ 4 ∷ 8 ∷ []) [] [] (2 ∷ 4 ∷ 10 ∷ 17 ∷ []) []
    ∷ row Finds (2 ∷ 17 ∷ []) [] [] (8 ∷ []) []
    ∷ row Gots [] [] [] [] []
    ∷ row Links (17 ∷ []) (4 ∷ 19 ∷ []) [] (4 ∷ 17 ∷ []) []
    ∷ row Behind [] [] [] [] []
    ∷ row Bare (22 ∷ []) [] [] (2 ∷ 17 ∷ 22 ∷ []) []
    ∷ row Rests (6 ∷ 9 ∷ 10 ∷ 13 ∷ 23 ∷ 30 ∷ 35 ∷ 36 ∷ []) [] (6 ∷ 10 ∷ 36 ∷ []) (6 ∷ 10 ∷ 13 ∷ 23 ∷ 30 ∷ 35 ∷ 36 ∷ []) []
    ∷ row Map (5 ∷ []) (5 ∷ 21 ∷ []) [] [] []
    ∷ row Values [] [] [] [] []
    ∷ row Emptied [] [] [] [] []
    ∷ row Steps [] [] [] [] []
    ∷ row Withdrawals [] [] [] [] []
    ∷ row Tries [] [] [] [] []
    ∷ row Raises (6 ∷ []) (1 ∷ 9 ∷ 16 ∷ []) [] (6 ∷ []) (2 ∷ 10 ∷ 17 ∷ [])
    ∷ row Hazards [] [] [] [] []
    ∷ row Asks [] [] [] [] []
    ∷ row CallSteps (32 ∷ 43 ∷ []) (43 ∷ []) (11 ∷ 32 ∷ 33 ∷ 43 ∷ []) (40 ∷ []) (14 ∷ 31 ∷ 33 ∷ 37 ∷ 39 ∷ 44 ∷ [])
    ∷ row Told (0 ∷ 5 ∷ 8 ∷ 12 ∷ 13 ∷ 15 ∷ 21 ∷ 29 ∷ 32 ∷ 34 ∷ 38 ∷ 40 ∷ []) (5 ∷ 13 ∷ 21 ∷ []) (11 ∷ 12 ∷ 13 ∷ 31 ∷ 32 ∷ 33 ∷ 37 ∷ 38 ∷ []) (0 ∷ 5 ∷ 8 ∷ 12 ∷ 13 ∷ 14 ∷ 15 ∷ 21 ∷ 29 ∷ 31 ∷ 37 ∷ 39 ∷ 40 ∷ []) []
    ∷ row Reasons (4 ∷ 5 ∷ 10 ∷ 13 ∷ 30 ∷ 35 ∷ 43 ∷ []) (39 ∷ 43 ∷ []) (4 ∷ 10 ∷ 13 ∷ 30 ∷ 37 ∷ 43 ∷ []) (4 ∷ 10 ∷ 11 ∷ 12 ∷ 13 ∷ 14 ∷ 30 ∷ 33 ∷ 35 ∷ 43 ∷ 44 ∷ []) []
    ∷ row Full [] [] [] [] []
    ∷ row Lacks [] [] [] [] []
    ∷ row Counted (24 ∷ 40 ∷ []) (24 ∷ []) [] [] []
    ∷ row Refusals [] [] [] [] []
    ∷ row Clock (24 ∷ 25 ∷ []) [] (24 ∷ 25 ∷ []) (7 ∷ 25 ∷ 28 ∷ []) []
    ∷ row Repeats [] [] [] [] []
    ∷ row Alone [] (10 ∷ 13 ∷ 17 ∷ []) [] (2 ∷ []) []
    ∷ row Named [] [] [] [] []
    ∷ row Ranges [] [] [] [] [] ∷ []

abbrev pub KeptTwiceWorked : Type 0
KeptTwiceWorked = IsWorked kept_twice_setting kept_twice_items kept_twice kept_twice_table
