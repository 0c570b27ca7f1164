-- A bucket and the queue have come to their last version and number: the record, and what the laws refuse of it once a line is changed.
use Rattle.std.specs.Prelude.{List, [], ◌∷◌, ◌++◌, None}
use Rattle.wfe_core.specs.words.declared.layout.Layout.{Layout}
use Rattle.wfe_core.specs.words.declared.config.SchemeKind.TheVariants.{He}
use Rattle.wfe_core.specs.defs.Entry.{Entry}
use Rattle.wfe_core.specs.defs.declared.call.Answer.TheVariants as answers
use Rattle.wfe_core.specs.defs.declared.call.Call.TheVariants as calls
use Rattle.wfe_core.specs.defs.declared.call.ClockMove.TheVariants as moves
use Rattle.wfe_core.specs.defs.declared.event.Event.TheVariants as events
use Rattle.wfe_core.specs.defs.declared.event.Guard.TheVariants as guards
use Rattle.wfe_core.specs.defs.declared.event.Root.TheVariants as roots
use Rattle.wfe_core.specs.Guards.{from_to}
use Rattle.model_history.specs.History.{Item}
use Rattle.model_history.specs.Among.{call, said, setting, to_end}
use Rattle.law_worked.specs.Judges.Law.{Calls, Clears, Indexes, Copies, Reuse, Free, Placing, Order, Nexts, Retiring, Backs, Lists, Blocks, Reads, Due, Room, Eras, Moves, Advances, Births, Retires, Current, Single, Rising, Guards, Kinds, Throughout, Sources, Finds, Gots, Links, Behind, Bare, Rests, Map, Values, Emptied, Steps, Withdrawals, Tries, Raises, Hazards, Asks, CallSteps, Told, Reasons, Full, Lacks, Counted, Refusals, Clock, Repeats, Alone, Named, Ranges}
use Rattle.law_worked.specs.Refusals.{IsWorked, Row, row}

abbrev pub spent_setting : Layout
spent_setting = setting He 1 8 2 100 2 2

abbrev pub spent_items : List Item
spent_items = call 0 (calls.Hold 7) ++ to_end 0 ++ call 0 (calls.Put 7 70) ++ to_end 0 ++ call 0 (calls.Put 8 70) ++ to_end 0 ++ call 0 (calls.Remove 9) ++ to_end 0 ++ call 0 (calls.Remove 8) ++ to_end 0 ++ call 0 (calls.Enqueue 1) ++ to_end 0 ++ call 0 (calls.Enqueue 2) ++ to_end 0

abbrev pub spent : List Entry
spent =
    said 0 (events.Begin (calls.Hold 7))
    ∷ said 0 (events.Reserve (guards.Index 0 2) (from_to 1 1))
    ∷ said 0 (events.Null 2 4)
    ∷ said 0 (events.Reserve (guards.Index 0 2) None)
    ∷ said 0 (events.End 5 answers.Nothing)
    ∷ said 0 (events.Begin (calls.Put 7 70))
    ∷ said 0 (events.Reserve (guards.Index 0 0) (from_to 1 1))
    ∷ said 0 (events.Null 0 4)
    ∷ said 0 (events.Give 0 1)
    ∷ said 0 (events.Link (roots.Bucket 0) 0)
    ∷ said 0 (events.Put 0 1 7 70)
    ∷ said 0 (events.Reserve (guards.Index 0 0) None)
    ∷ said 0 (events.End 13 (answers.Done 1 moves.Still))
    ∷ said 0 (events.Begin (calls.Put 8 70))
    ∷ said 0 (events.Reserve (guards.Index 0 0) (from_to 1 1))
    ∷ said 0 (events.Held 0 0 4)
    ∷ said 0 (events.Give 1 1)
    ∷ said 0 (events.Link (roots.Bucket 0) 1)
    ∷ said 0 (events.Cut 0)
    ∷ said 0 (events.Put 0 2 8 70)
    ∷ said 0 (events.Clear 0 0)
    ∷ said 0 (events.Reserve (guards.Index 0 0) None)
    ∷ said 0 (events.Retire 0 1 1)
    ∷ said 0 (events.End 22 (answers.Done 2 moves.Still))
    ∷ said 0 (events.Begin (calls.Remove 9))
    ∷ said 0 (events.Reserve (guards.Index 0 0) (from_to 1 1))
    ∷ said 0 (events.Held 0 1 4)
    ∷ said 0 (events.Clear 0 1)
    ∷ said 0 (events.Reserve (guards.Index 0 0) None)
    ∷ said 0 (events.End 11 (answers.Absent 2))
    ∷ said 0 (events.Begin (calls.Remove 8))
    ∷ said 0 (events.Reserve (guards.Index 0 0) (from_to 1 1))
    ∷ said 0 (events.Held 0 1 4)
    ∷ said 0 (events.Clear 0 1)
    ∷ said 0 (events.Reserve (guards.Index 0 0) None)
    ∷ said 0 (events.End 11 (answers.Spent 2))
    ∷ said 0 (events.Begin (calls.Enqueue 1))
    ∷ said 0 (events.Reserve (guards.Index 0 0) (from_to 1 1))
    ∷ said 0 (events.Held 0 8 4)
    ∷ said 0 (events.Give 2 1)
    ∷ said 0 (events.Link (roots.Next 8) 2)
    ∷ said 0 (events.Queued 1 1)
    ∷ said 0 (events.Link roots.Tail 2)
    ∷ said 0 (events.Clear 0 8)
    ∷ said 0 (events.Reserve (guards.Index 0 0) None)
    ∷ said 0 (events.End 15 (answers.Queued 1))
    ∷ said 0 (events.Begin (calls.Enqueue 2))
    ∷ said 0 (events.Reserve (guards.Index 0 0) (from_to 1 1))
    ∷ said 0 (events.Held 0 2 4)
    ∷ said 0 (events.Give 3 1)
    ∷ said 0 (events.Link (roots.Next 2) 3)
    ∷ said 0 (events.Queued 2 2)
    ∷ said 0 (events.Link roots.Tail 3)
    ∷ said 0 (events.Clear 0 2)
    ∷ said 0 (events.Reserve (guards.Index 0 0) None)
    ∷ said 0 (events.End 15 (answers.Queued 2)) ∷ []

-- of each law the places at which it refuses a line that is dropped, told twice, told after the next one, altered, or slowed
abbrev pub spent_table : List Row
spent_table =
    row Calls (0 ∷ 4 ∷ 5 ∷ 12 ∷ 13 ∷ 23 ∷ 24 ∷ 29 ∷ 30 ∷ 35 ∷ 36 ∷ 45 ∷ 46 ∷ []) (0 ∷ 4 ∷ 5 ∷ 12 ∷ 13 ∷ 23 ∷ 24 ∷ 29 ∷ 30 ∷ 35 ∷ 36 ∷ 45 ∷ 46 ∷ 55 ∷ []) (0 ∷ 3 ∷ 4 ∷ 5 ∷ 11 ∷ 12 ∷ 13 ∷ 22 ∷ 23 ∷ 24 ∷ 28 ∷ 29 ∷ 30 ∷ 34 ∷ 35 ∷ 36 ∷ 44 ∷ 45 ∷ 46 ∷ 54 ∷ []) [] []
    ∷ row Clears (15 ∷ 26 ∷ 32 ∷ 38 ∷ 48 ∷ []) (20 ∷ 27 ∷ 33 ∷ 43 ∷ 53 ∷ []) (26 ∷ 32 ∷ []) (15 ∷ 20 ∷ 26 ∷ 27 ∷ 32 ∷ 33 ∷ 38 ∷ 43 ∷ 48 ∷ 53 ∷ []) []
    ∷ row Indexes [] [] [] [] []
    ∷ row Copies [] [] [] [] []
    ∷ row Reuse [] [] [] (2 ∷ 7 ∷ 15 ∷ 26 ∷ 32 ∷ 48 ∷ []) []
    ∷ row Free [] (8 ∷ 16 ∷ 39 ∷ 49 ∷ []) [] (8 ∷ 16 ∷ 39 ∷ []) []
    ∷ row Placing (8 ∷ 9 ∷ 13 ∷ 16 ∷ 17 ∷ 39 ∷ 40 ∷ 46 ∷ 49 ∷ 50 ∷ []) (8 ∷ 9 ∷ 16 ∷ 17 ∷ 39 ∷ 40 ∷ 49 ∷ 50 ∷ []) (8 ∷ 16 ∷ 39 ∷ 49 ∷ []) (8 ∷ 9 ∷ 16 ∷ 17 ∷ 39 ∷ 40 ∷ 49 ∷ 50 ∷ []) []
    ∷ row Order (9 ∷ 10 ∷ 17 ∷ 18 ∷ 19 ∷ 40 ∷ 41 ∷ 50 ∷ 51 ∷ []) (9 ∷ 10 ∷ 17 ∷ 18 ∷ 19 ∷ 40 ∷ 41 ∷ 50 ∷ 51 ∷ []) (8 ∷ 9 ∷ 10 ∷ 16 ∷ 17 ∷ 18 ∷ 19 ∷ 39 ∷ 40 ∷ 41 ∷ 49 ∷ 50 ∷ 51 ∷ []) (9 ∷ 18 ∷ []) []
    ∷ row Nexts (40 ∷ 42 ∷ 50 ∷ []) (40 ∷ 42 ∷ 50 ∷ 52 ∷ []) [] (40 ∷ 42 ∷ 50 ∷ 52 ∷ []) []
    ∷ row Retiring (18 ∷ 22 ∷ []) (18 ∷ 22 ∷ []) (22 ∷ []) (18 ∷ []) []
    ∷ row Backs [] [] [] [] []
    ∷ row Lists [] [] [] [] []
    ∷ row Blocks [] [] [] [] []
    ∷ row Reads [] [] [] [] []
    ∷ row Due [] [] [] [] []
    ∷ row Room [] [] [] [] []
    ∷ row Eras [] [] [] [] []
    ∷ row Moves [] [] [] [] []
    ∷ row Advances [] [] [] [] []
    ∷ row Births [] [] [] [] []
    ∷ row Retires (8 ∷ 18 ∷ []) [] [] (8 ∷ 18 ∷ 22 ∷ []) []
    ∷ row Current [] [] [] (1 ∷ 6 ∷ 14 ∷ 25 ∷ 31 ∷ 37 ∷ 47 ∷ []) []
    ∷ row Single [] [] [] [] []
    ∷ row Rising [] [] [] [] []
    ∷ row Guards [] [] [] [] []
    ∷ row Kinds [] [] [] [] []
    ∷ row Throughout (8 ∷ 14 ∷ 16 ∷ 20 ∷ 25 ∷ 27 ∷ 31 ∷ 33 ∷ 37 ∷ 39 ∷ 43 ∷ 47 ∷ 53 ∷ []) [] (14 ∷ 20 ∷ 25 ∷ 26 ∷ 27 ∷ 31 ∷ 32 ∷ 33 ∷ 37 ∷ 43 ∷ 47 ∷ 53 ∷ []) (2 ∷ 7 ∷ 8 ∷ 15 ∷ 16 ∷ 20 ∷ 26 ∷ 27 ∷ 32 ∷ 33 ∷ 38 ∷ 39 ∷ 43 ∷ 48 ∷ 53 ∷ []) []
    ∷ row Sources (0 ∷ 9 ∷ 17 ∷ 36 ∷ 42 ∷ []) [] [] (2 ∷ 7 ∷ 9 ∷ 15 ∷ 17 ∷ 26 ∷ 32 ∷ 38 ∷ 42 ∷ 48 ∷ []) []
    ∷ row Finds (7 ∷ 15 ∷ 26 ∷ 32 ∷ 38 ∷ 48 ∷ []) [] (4 ∷ 12 ∷ 23 ∷ 29 ∷ 35 ∷ 45 ∷ []) (0 ∷ []) []
    ∷ row Gots [] [] [] [] []
    ∷ row Links (15 ∷ 38 ∷ 42 ∷ 48 ∷ []) (9 ∷ 17 ∷ 42 ∷ 52 ∷ []) (42 ∷ 52 ∷ []) (9 ∷ 15 ∷ 38 ∷ 42 ∷ 48 ∷ []) []
    ∷ row Behind [] [] [] [] []
    ∷ row Bare (20 ∷ 27 ∷ 33 ∷ 43 ∷ 53 ∷ []) [] (26 ∷ 32 ∷ []) (7 ∷ 15 ∷ 20 ∷ 26 ∷ 27 ∷ 32 ∷ 33 ∷ 38 ∷ 43 ∷ 48 ∷ 53 ∷ []) []
    ∷ row Rests (3 ∷ 11 ∷ 21 ∷ 28 ∷ 34 ∷ 44 ∷ 54 ∷ []) [] (3 ∷ 11 ∷ 28 ∷ 34 ∷ 44 ∷ 54 ∷ []) (2 ∷ 3 ∷ 11 ∷ 21 ∷ 28 ∷ 34 ∷ 44 ∷ 54 ∷ []) []
    ∷ row Map (10 ∷ []) (10 ∷ 19 ∷ []) [] [] []
    ∷ row Values (41 ∷ []) (41 ∷ 51 ∷ []) [] (41 ∷ 51 ∷ []) []
    ∷ row Emptied [] [] [] [] []
    ∷ row Steps [] [] [] [] []
    ∷ row Withdrawals [] [] [] [] []
    ∷ row Tries (1 ∷ 6 ∷ 11 ∷ 14 ∷ 21 ∷ 25 ∷ 28 ∷ 31 ∷ 34 ∷ 37 ∷ 44 ∷ 47 ∷ []) (1 ∷ 6 ∷ 14 ∷ 25 ∷ 31 ∷ 37 ∷ 47 ∷ []) (1 ∷ 2 ∷ 6 ∷ 14 ∷ 25 ∷ 31 ∷ 37 ∷ 47 ∷ []) (11 ∷ 21 ∷ 28 ∷ 34 ∷ 44 ∷ []) (2 ∷ 7 ∷ 15 ∷ 26 ∷ 32 ∷ 38 ∷ 48 ∷ [])
    ∷ row Raises [] [] [] [] []
    ∷ row Hazards [] [] [] [] []
    ∷ row Asks [] [] [] [] []
    ∷ row CallSteps [] [] [] [] []
    ∷ row Told (0 ∷ 5 ∷ 10 ∷ 13 ∷ 19 ∷ 24 ∷ 36 ∷ 41 ∷ 46 ∷ 51 ∷ []) (10 ∷ 19 ∷ 41 ∷ 51 ∷ []) (4 ∷ 12 ∷ 23 ∷ 45 ∷ []) (0 ∷ 4 ∷ 5 ∷ 10 ∷ 13 ∷ 19 ∷ 36 ∷ 41 ∷ 45 ∷ 46 ∷ 51 ∷ 55 ∷ []) []
    ∷ row Reasons (2 ∷ 10 ∷ 19 ∷ 30 ∷ []) (10 ∷ 19 ∷ []) (23 ∷ 29 ∷ 35 ∷ []) (2 ∷ 29 ∷ 30 ∷ 35 ∷ 55 ∷ []) []
    ∷ row Full [] [] [] [] []
    ∷ row Lacks [] [] [] [] []
    ∷ row Counted (22 ∷ 24 ∷ []) (22 ∷ []) (22 ∷ 23 ∷ []) [] []
    ∷ row Refusals (24 ∷ []) [] [] [] []
    ∷ row Clock [] [] [] (12 ∷ 23 ∷ []) []
    ∷ row Repeats (30 ∷ 36 ∷ []) (26 ∷ 32 ∷ []) [] [] []
    ∷ row Alone (20 ∷ 27 ∷ 33 ∷ 43 ∷ []) (15 ∷ 26 ∷ 32 ∷ 38 ∷ 48 ∷ []) (26 ∷ 32 ∷ []) (7 ∷ []) []
    ∷ row Named [] [] [] [] []
    ∷ row Ranges [] [] [] (38 ∷ 43 ∷ []) [] ∷ []

abbrev pub SpentWorked : Type 0
SpentWorked = IsWorked spent_setting spent_items spent spent_table
