-- Under 2GE a reader raises its interval, and its row goes back once it has let go: the record, and what the laws refuse of it once a line is changed.
use Rattle.std.specs.Prelude.{List, [], ◌∷◌, ◌++◌, Some, None}
use Rattle.wfe_core.specs.words.declared.layout.Layout.{Layout}
use Rattle.wfe_core.specs.words.declared.config.SchemeKind.TheVariants.{Ibr}
use Rattle.wfe_core.specs.defs.Entry.{Entry}
use Rattle.wfe_core.specs.defs.declared.call.Answer.TheVariants as answers
use Rattle.wfe_core.specs.defs.declared.call.Call.TheVariants as calls
use Rattle.wfe_core.specs.defs.declared.call.ClockMove.TheVariants as moves
use Rattle.wfe_core.specs.defs.declared.event.Event.TheVariants as events
use Rattle.wfe_core.specs.defs.declared.event.Guard.TheVariants as guards
use Rattle.wfe_core.specs.defs.declared.event.Root.TheVariants as roots
use Rattle.wfe_core.specs.Guards.{from_to}
use Rattle.model_history.specs.History.{Item}
use Rattle.model_history.specs.Among.{call, said, setting, to_end}
use Rattle.law_worked.specs.Judges.Law.{Calls, Clears, Indexes, Copies, Reuse, Free, Placing, Order, Nexts, Retiring, Backs, Lists, Blocks, Reads, Due, Room, Eras, Moves, Advances, Births, Retires, Current, Single, Rising, Guards, Kinds, Throughout, Sources, Finds, Gots, Links, Behind, Bare, Rests, Map, Values, Emptied, Steps, Withdrawals, Tries, Raises, Hazards, Asks, CallSteps, Told, Reasons, Full, Lacks, Counted, Refusals, Clock, Repeats, Alone, Named, Ranges}
use Rattle.law_worked.specs.Refusals.{IsWorked, Row, row}

abbrev pub intervals_setting : Layout
intervals_setting = setting Ibr 2 8 2 1 100 100

abbrev pub intervals_items : List Item
intervals_items = call 0 (calls.Put 7 70) ++ to_end 0 ++ call 1 (calls.Hold 7) ++ to_end 1 ++ call 0 calls.Advance ++ to_end 0 ++ call 1 (calls.Get 7) ++ to_end 1 ++ call 0 (calls.Remove 7) ++ to_end 0 ++ call 1 calls.Release ++ to_end 1 ++ call 0 calls.Scan ++ to_end 0

abbrev pub intervals : List Entry
intervals =
    said 0 (events.Begin (calls.Put 7 70))
    ∷ said 0 (events.Reserve (guards.Whole 0) (from_to 1 1))
    ∷ said 0 (events.Null 0 2)
    ∷ said 0 (events.Give 0 1)
    ∷ said 0 (events.Link (roots.Bucket 0) 0)
    ∷ said 0 (events.Put 0 1 7 70)
    ∷ said 0 (events.Reserve (guards.Whole 0) None)
    ∷ said 0 (events.End 13 (answers.Done 1 moves.Still))
    ∷ said 1 (events.Begin (calls.Hold 7))
    ∷ said 1 (events.Reserve (guards.Whole 1) (from_to 1 1))
    ∷ said 1 (events.Held 2 0 2)
    ∷ said 1 (events.End 4 (answers.Holding 0))
    ∷ said 0 (events.Begin calls.Advance)
    ∷ said 0 (events.Era 2)
    ∷ said 0 (events.End 2 (answers.Clock (moves.Moved 2)))
    ∷ said 1 (events.Begin (calls.Get 7))
    ∷ said 1 (events.Reserve (guards.Whole 1) (from_to 1 2))
    ∷ said 1 (events.Held 0 0 5)
    ∷ said 1 (events.Got 0 1 7 (Some 70))
    ∷ said 1 (events.Clear 0 0)
    ∷ said 1 (events.End 9 (answers.Got 1 (Some 70)))
    ∷ said 0 (events.Begin (calls.Remove 7))
    ∷ said 0 (events.Reserve (guards.Whole 0) (from_to 2 2))
    ∷ said 0 (events.Held 0 0 2)
    ∷ said 0 (events.Give 1 2)
    ∷ said 0 (events.Link (roots.Bucket 0) 1)
    ∷ said 0 (events.Cut 0)
    ∷ said 0 (events.Removed 0 2 7)
    ∷ said 0 (events.Clear 0 0)
    ∷ said 0 (events.Reserve (guards.Whole 0) None)
    ∷ said 0 (events.Retire 0 1 2)
    ∷ said 0 (events.Era 3)
    ∷ said 0 (events.Read (guards.Whole 0) None)
    ∷ said 0 (events.Read (guards.Whole 1) (from_to 1 2))
    ∷ said 0 (events.End 22 (answers.Done 2 (moves.Moved 3)))
    ∷ said 1 (events.Begin calls.Release)
    ∷ said 1 (events.Clear 2 0)
    ∷ said 1 (events.Reserve (guards.Whole 1) None)
    ∷ said 1 (events.End 1 answers.Released)
    ∷ said 0 (events.Begin calls.Scan)
    ∷ said 0 (events.Read (guards.Whole 0) None)
    ∷ said 0 (events.Read (guards.Whole 1) None)
    ∷ said 0 (events.Back 0)
    ∷ said 0 (events.End 3 (answers.Scanned 0 1)) ∷ []

-- of each law the places at which it refuses a line that is dropped, told twice, told after the next one, altered, or slowed
abbrev pub intervals_table : List Row
intervals_table =
    row Calls (0 ∷ 7 ∷ 8 ∷ 11 ∷ 12 ∷ 14 ∷ 15 ∷ 20 ∷ 21 ∷ 34 ∷ 35 ∷ 39 ∷ []) (0 ∷ 7 ∷ 8 ∷ 11 ∷ 12 ∷ 14 ∷ 15 ∷ 20 ∷ 21 ∷ 34 ∷ 35 ∷ 38 ∷ 39 ∷ 43 ∷ []) (0 ∷ 6 ∷ 8 ∷ 10 ∷ 12 ∷ 13 ∷ 15 ∷ 19 ∷ 21 ∷ 33 ∷ 35 ∷ 37 ∷ 39 ∷ 42 ∷ []) [] []
    ∷ row Clears (10 ∷ 17 ∷ 23 ∷ []) (19 ∷ 28 ∷ 36 ∷ []) [] (10 ∷ 17 ∷ 19 ∷ 23 ∷ 28 ∷ 36 ∷ []) []
    ∷ row Indexes (8 ∷ 35 ∷ []) [] (35 ∷ []) (8 ∷ 35 ∷ []) []
    ∷ row Copies [] [] [] [] []
    ∷ row Reuse (19 ∷ 28 ∷ 36 ∷ []) [] [] (2 ∷ 10 ∷ 17 ∷ 19 ∷ 23 ∷ 28 ∷ 36 ∷ []) []
    ∷ row Free (3 ∷ []) (3 ∷ 24 ∷ 42 ∷ []) [] (3 ∷ []) []
    ∷ row Placing (3 ∷ 4 ∷ 24 ∷ 25 ∷ []) (3 ∷ 4 ∷ 24 ∷ 25 ∷ []) (3 ∷ 24 ∷ []) (3 ∷ 4 ∷ 24 ∷ 25 ∷ []) []
    ∷ row Order (4 ∷ 5 ∷ 25 ∷ 26 ∷ 27 ∷ []) (4 ∷ 5 ∷ 25 ∷ 26 ∷ 27 ∷ []) (3 ∷ 4 ∷ 5 ∷ 24 ∷ 25 ∷ 26 ∷ 27 ∷ []) (4 ∷ 26 ∷ []) []
    ∷ row Nexts [] [] [] [] []
    ∷ row Retiring (26 ∷ 30 ∷ []) (26 ∷ 30 ∷ []) [] (26 ∷ []) []
    ∷ row Backs (30 ∷ []) (42 ∷ []) [] (42 ∷ []) []
    ∷ row Lists [] [] [] [] []
    ∷ row Blocks (30 ∷ 32 ∷ 33 ∷ 40 ∷ 41 ∷ 42 ∷ []) (32 ∷ 33 ∷ 40 ∷ 41 ∷ 42 ∷ []) (31 ∷ 32 ∷ 33 ∷ 39 ∷ 40 ∷ 41 ∷ 42 ∷ []) (40 ∷ 41 ∷ 42 ∷ []) []
    ∷ row Reads (16 ∷ 29 ∷ 37 ∷ []) [] [] (16 ∷ 29 ∷ 32 ∷ 33 ∷ 37 ∷ 40 ∷ 41 ∷ []) []
    ∷ row Due (30 ∷ 39 ∷ []) (32 ∷ 33 ∷ 40 ∷ 41 ∷ []) (39 ∷ []) (12 ∷ 39 ∷ []) []
    ∷ row Room (30 ∷ []) [] [] [] []
    ∷ row Eras (13 ∷ []) (13 ∷ 31 ∷ []) [] (13 ∷ 31 ∷ []) []
    ∷ row Moves (12 ∷ 21 ∷ []) (13 ∷ 31 ∷ []) (31 ∷ []) (12 ∷ []) []
    ∷ row Advances [] [] [] [] []
    ∷ row Births (13 ∷ []) (13 ∷ []) [] [] []
    ∷ row Retires (3 ∷ 13 ∷ 26 ∷ []) (13 ∷ []) [] (3 ∷ 26 ∷ 30 ∷ []) []
    ∷ row Current (13 ∷ []) (13 ∷ []) [] (1 ∷ 9 ∷ 16 ∷ 22 ∷ 29 ∷ 37 ∷ []) []
    ∷ row Single [] [] [] [] []
    ∷ row Rising (6 ∷ []) (1 ∷ 9 ∷ 16 ∷ 22 ∷ []) [] (6 ∷ 9 ∷ 16 ∷ 29 ∷ 37 ∷ []) []
    ∷ row Guards [] [] [] [] []
    ∷ row Kinds [] [] [] [] []
    ∷ row Throughout (3 ∷ 9 ∷ 19 ∷ 22 ∷ 28 ∷ 36 ∷ []) [] (9 ∷ 22 ∷ 28 ∷ 36 ∷ []) (2 ∷ 3 ∷ 10 ∷ 17 ∷ 19 ∷ 23 ∷ 28 ∷ 36 ∷ []) []
    ∷ row Sources (0 ∷ 4 ∷ 8 ∷ 21 ∷ []) [] [] (2 ∷ 4 ∷ 10 ∷ 17 ∷ 23 ∷ []) []
    ∷ row Finds (2 ∷ 17 ∷ 23 ∷ []) [] [] (8 ∷ []) []
    ∷ row Gots (4 ∷ 5 ∷ 17 ∷ []) [] (4 ∷ 17 ∷ 18 ∷ []) (4 ∷ 17 ∷ 18 ∷ []) []
    ∷ row Links (23 ∷ []) (4 ∷ 25 ∷ []) [] (4 ∷ 23 ∷ []) []
    ∷ row Behind [] [] [] [] []
    ∷ row Bare (19 ∷ 28 ∷ []) [] (19 ∷ []) (2 ∷ 17 ∷ 19 ∷ 23 ∷ 28 ∷ []) []
    ∷ row Rests (6 ∷ 9 ∷ 10 ∷ 29 ∷ 36 ∷ 37 ∷ []) [] (6 ∷ 10 ∷ 37 ∷ []) (6 ∷ 10 ∷ 29 ∷ 36 ∷ 37 ∷ []) []
    ∷ row Map (5 ∷ []) (5 ∷ 27 ∷ []) [] (5 ∷ 18 ∷ 27 ∷ []) []
    ∷ row Values [] [] [] [] []
    ∷ row Emptied [] [] [] [] []
    ∷ row Steps [] [] [] [] []
    ∷ row Withdrawals [] [] [] [] []
    ∷ row Tries [] [] [] [] []
    ∷ row Raises (6 ∷ 9 ∷ 16 ∷ []) (1 ∷ 9 ∷ 16 ∷ 17 ∷ 22 ∷ []) (15 ∷ 16 ∷ []) (6 ∷ []) (2 ∷ 10 ∷ 17 ∷ 23 ∷ [])
    ∷ row Hazards [] [] [] [] []
    ∷ row Asks [] [] [] [] []
    ∷ row CallSteps (21 ∷ 42 ∷ []) (42 ∷ []) (42 ∷ []) (39 ∷ []) (14 ∷ 38 ∷ 43 ∷ [])
    ∷ row Told (0 ∷ 5 ∷ 8 ∷ 12 ∷ 15 ∷ 18 ∷ 21 ∷ 27 ∷ 35 ∷ 39 ∷ []) (5 ∷ 18 ∷ 27 ∷ []) [] (0 ∷ 5 ∷ 8 ∷ 12 ∷ 15 ∷ 18 ∷ 20 ∷ 21 ∷ 27 ∷ 35 ∷ 38 ∷ 39 ∷ []) []
    ∷ row Reasons (5 ∷ 10 ∷ 36 ∷ 42 ∷ []) (42 ∷ []) (10 ∷ 42 ∷ []) (10 ∷ 11 ∷ 21 ∷ 36 ∷ 42 ∷ 43 ∷ []) []
    ∷ row Full [] [] [] [] []
    ∷ row Lacks [] [] [] [] []
    ∷ row Counted (30 ∷ 39 ∷ []) (30 ∷ []) [] [] []
    ∷ row Refusals [] [] [] [] []
    ∷ row Clock (12 ∷ 13 ∷ 30 ∷ 31 ∷ []) [] (12 ∷ 13 ∷ 30 ∷ 31 ∷ []) (7 ∷ 12 ∷ 13 ∷ 14 ∷ 31 ∷ 34 ∷ []) []
    ∷ row Repeats [] (17 ∷ []) [] [] []
    ∷ row Alone [] (10 ∷ 17 ∷ 23 ∷ []) [] (2 ∷ []) []
    ∷ row Named [] [] [] [] []
    ∷ row Ranges [] [] [] [] [] ∷ []

abbrev pub IntervalsWorked : Type 0
IntervalsWorked = IsWorked intervals_setting intervals_items intervals intervals_table
