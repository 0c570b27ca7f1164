-- A mover of the clock answers a reader's request: the record, and what the laws refuse of it once a line is changed.
use Rattle.std.specs.Prelude.{List, [], ◌∷◌, ◌++◌, None}
use Rattle.wfe_core.specs.words.declared.layout.Layout.{Layout}
use Rattle.wfe_core.specs.words.declared.config.SchemeKind.TheVariants.{Wfe}
use Rattle.wfe_core.specs.defs.Entry.{Entry}
use Rattle.wfe_core.specs.defs.declared.call.Answer.TheVariants as answers
use Rattle.wfe_core.specs.defs.declared.call.Call.TheVariants as calls
use Rattle.wfe_core.specs.defs.declared.call.ClockMove.TheVariants as moves
use Rattle.wfe_core.specs.defs.declared.event.Event.TheVariants as events
use Rattle.wfe_core.specs.defs.declared.event.Guard.TheVariants as guards
use Rattle.wfe_core.specs.defs.declared.event.Root.TheVariants as roots
use Rattle.wfe_core.specs.Guards.{from_to}
use Rattle.model_history.specs.History.{Item, times}
use Rattle.model_history.specs.Among.{call, said, setting, to_end}
use Rattle.law_worked.specs.Judges.Law.{Calls, Clears, Indexes, Copies, Reuse, Free, Placing, Order, Nexts, Retiring, Backs, Lists, Blocks, Reads, Due, Room, Eras, Moves, Advances, Births, Retires, Current, Single, Rising, Guards, Kinds, Throughout, Sources, Finds, Gots, Links, Behind, Bare, Rests, Map, Values, Emptied, Steps, Withdrawals, Tries, Raises, Hazards, Asks, CallSteps, Told, Reasons, Full, Lacks, Counted, Refusals, Clock, Repeats, Alone, Named, Ranges}
use Rattle.law_worked.specs.Refusals.{IsWorked, Row, row}

abbrev pub helped_setting : Layout
helped_setting = setting Wfe 4 8 1 100 100 100

abbrev pub helped_items : List Item
helped_items = call 2 (calls.Put 7 70) ++ to_end 2 ++ call 0 (calls.Hold 7) ++ times 3 0 ++ call 1 calls.Advance ++ to_end 1 ++ call 3 calls.Advance ++ times 5 3 ++ times 3 0 ++ to_end 3 ++ call 2 (calls.Put 7 71) ++ to_end 2 ++ call 1 calls.Advance ++ to_end 1 ++ to_end 0 ++ call 0 calls.Release ++ to_end 0

abbrev pub helped : List Entry
helped =
    said 2 (events.Begin (calls.Put 7 70))
    ∷ said 2 (events.Reserve (guards.Index 2 0) (from_to 1 1))
    ∷ said 2 (events.Null 0 4)
    ∷ said 2 (events.Give 0 1)
    ∷ said 2 (events.Link (roots.Bucket 0) 0)
    ∷ said 2 (events.Put 0 1 7 70)
    ∷ said 2 (events.Reserve (guards.Index 2 0) None)
    ∷ said 2 (events.End 13 (answers.Done 1 moves.Still))
    ∷ said 0 (events.Begin (calls.Hold 7))
    ∷ said 0 (events.Reserve (guards.Index 0 2) (from_to 1 1))
    ∷ said 1 (events.Begin calls.Advance)
    ∷ said 1 (events.Era 2)
    ∷ said 1 (events.End 6 (answers.Clock (moves.Moved 2)))
    ∷ said 3 (events.Begin calls.Advance)
    ∷ said 0 (events.Reserve (guards.Index 0 2) (from_to 2 2))
    ∷ said 3 (events.Era 3)
    ∷ said 3 (events.End 6 (answers.Clock (moves.Moved 3)))
    ∷ said 2 (events.Begin (calls.Put 7 71))
    ∷ said 2 (events.Reserve (guards.Index 2 0) (from_to 3 3))
    ∷ said 2 (events.Held 0 0 4)
    ∷ said 2 (events.Give 1 3)
    ∷ said 2 (events.Link (roots.Bucket 0) 1)
    ∷ said 2 (events.Cut 0)
    ∷ said 2 (events.Put 0 2 7 71)
    ∷ said 2 (events.Clear 0 0)
    ∷ said 2 (events.Reserve (guards.Index 2 0) None)
    ∷ said 2 (events.Retire 0 1 3)
    ∷ said 2 (events.End 20 (answers.Done 2 moves.Still))
    ∷ said 1 (events.Begin calls.Advance)
    ∷ said 1 (events.Reserve (guards.Helper 1) (from_to 3 3))
    ∷ said 1 (events.Reserve (guards.Index 0 2) (from_to 3 3))
    ∷ said 1 (events.Reserve (guards.Helper 1) None)
    ∷ said 1 (events.Era 4)
    ∷ said 1 (events.End 13 (answers.Clock (moves.Moved 4)))
    ∷ said 0 (events.Reserve (guards.Helper 0) (from_to 4 4))
    ∷ said 0 (events.Reserve (guards.Index 0 2) (from_to 3 3))
    ∷ said 0 (events.Held 2 1 12)
    ∷ said 0 (events.Reserve (guards.Helper 0) None)
    ∷ said 0 (events.End 14 (answers.Holding 1))
    ∷ said 0 (events.Begin calls.Release)
    ∷ said 0 (events.Clear 2 1)
    ∷ said 0 (events.Reserve (guards.Index 0 2) None)
    ∷ said 0 (events.End 1 answers.Released) ∷ []

-- of each law the places at which it refuses a line that is dropped, told twice, told after the next one, altered, or slowed
abbrev pub helped_table : List Row
helped_table =
    row Calls (0 ∷ 7 ∷ 8 ∷ 10 ∷ 12 ∷ 13 ∷ 17 ∷ 28 ∷ 38 ∷ 39 ∷ []) (0 ∷ 7 ∷ 8 ∷ 10 ∷ 12 ∷ 13 ∷ 16 ∷ 17 ∷ 27 ∷ 28 ∷ 33 ∷ 38 ∷ 39 ∷ 42 ∷ []) (0 ∷ 6 ∷ 8 ∷ 10 ∷ 11 ∷ 15 ∷ 17 ∷ 26 ∷ 28 ∷ 32 ∷ 37 ∷ 38 ∷ 39 ∷ 41 ∷ []) [] []
    ∷ row Clears (19 ∷ 36 ∷ []) (24 ∷ 40 ∷ []) [] (19 ∷ 24 ∷ 36 ∷ 40 ∷ []) []
    ∷ row Indexes (8 ∷ []) [] [] (8 ∷ 39 ∷ []) []
    ∷ row Copies [] [] [] [] []
    ∷ row Reuse [] [] [] (2 ∷ 19 ∷ []) []
    ∷ row Free [] (3 ∷ 20 ∷ []) [] (3 ∷ []) []
    ∷ row Placing (3 ∷ 4 ∷ 17 ∷ 20 ∷ 21 ∷ []) (3 ∷ 4 ∷ 20 ∷ 21 ∷ []) (3 ∷ 20 ∷ []) (3 ∷ 4 ∷ 20 ∷ 21 ∷ []) []
    ∷ row Order (4 ∷ 5 ∷ 21 ∷ 22 ∷ 23 ∷ []) (4 ∷ 5 ∷ 21 ∷ 22 ∷ 23 ∷ []) (3 ∷ 4 ∷ 5 ∷ 20 ∷ 21 ∷ 22 ∷ 23 ∷ []) (4 ∷ 22 ∷ []) []
    ∷ row Nexts [] [] [] [] []
    ∷ row Retiring (22 ∷ 26 ∷ []) (22 ∷ 26 ∷ []) (26 ∷ []) (22 ∷ []) []
    ∷ row Backs [] [] [] [] []
    ∷ row Lists [] [] [] [] []
    ∷ row Blocks [] [] [] [] []
    ∷ row Reads [] [] [] [] []
    ∷ row Due [] [] [] (10 ∷ 13 ∷ 28 ∷ []) []
    ∷ row Room [] [] [] [] []
    ∷ row Eras (11 ∷ 15 ∷ []) (11 ∷ 15 ∷ 32 ∷ []) [] (11 ∷ 15 ∷ 32 ∷ []) []
    ∷ row Moves (10 ∷ 13 ∷ 28 ∷ []) (11 ∷ 15 ∷ 32 ∷ []) [] (10 ∷ 13 ∷ 28 ∷ []) []
    ∷ row Advances [] [] [] [] []
    ∷ row Births (11 ∷ 15 ∷ []) (11 ∷ 15 ∷ []) [] [] []
    ∷ row Retires (3 ∷ 11 ∷ 15 ∷ 22 ∷ []) (11 ∷ 15 ∷ []) [] (3 ∷ 22 ∷ 26 ∷ []) []
    ∷ row Current (11 ∷ 15 ∷ 32 ∷ []) (11 ∷ 15 ∷ []) [] (1 ∷ 9 ∷ 14 ∷ 18 ∷ 25 ∷ 29 ∷ 30 ∷ 31 ∷ 34 ∷ 41 ∷ []) []
    ∷ row Single [] [] [] [] []
    ∷ row Rising [] [] [] [] []
    ∷ row Guards (29 ∷ []) [] (29 ∷ 30 ∷ []) (29 ∷ 30 ∷ []) []
    ∷ row Kinds [] [] [] [] []
    ∷ row Throughout (3 ∷ 18 ∷ 20 ∷ 24 ∷ 40 ∷ []) [] (18 ∷ 24 ∷ 40 ∷ []) (2 ∷ 3 ∷ 19 ∷ 20 ∷ 24 ∷ 36 ∷ 40 ∷ []) []
    ∷ row Sources (0 ∷ 4 ∷ 8 ∷ 21 ∷ []) [] [] (2 ∷ 4 ∷ 19 ∷ 21 ∷ 36 ∷ []) []
    ∷ row Finds (2 ∷ 19 ∷ []) [] [] (8 ∷ []) []
    ∷ row Gots [] [] [] [] []
    ∷ row Links (19 ∷ []) (4 ∷ 21 ∷ []) [] (4 ∷ 19 ∷ []) []
    ∷ row Behind [] [] [] [] []
    ∷ row Bare (24 ∷ []) [] [] (2 ∷ 19 ∷ 24 ∷ []) []
    ∷ row Rests (6 ∷ 25 ∷ 31 ∷ 36 ∷ 37 ∷ 40 ∷ 41 ∷ []) [] (6 ∷ 37 ∷ 41 ∷ []) (6 ∷ 25 ∷ 31 ∷ 36 ∷ 37 ∷ 40 ∷ 41 ∷ []) []
    ∷ row Map (5 ∷ []) (5 ∷ 23 ∷ []) [] [] []
    ∷ row Values [] [] [] [] []
    ∷ row Emptied [] [] [] [] []
    ∷ row Steps [] [] [] [] (2 ∷ 19 ∷ 36 ∷ [])
    ∷ row Withdrawals (37 ∷ []) (36 ∷ []) (35 ∷ 37 ∷ []) (37 ∷ []) []
    ∷ row Tries [] [] [] [] []
    ∷ row Raises [] [] [] [] []
    ∷ row Hazards [] [] [] [] []
    ∷ row Asks (9 ∷ 14 ∷ []) (9 ∷ 14 ∷ []) [] (9 ∷ []) []
    ∷ row CallSteps [] [] (38 ∷ []) (10 ∷ 13 ∷ 28 ∷ []) (38 ∷ 42 ∷ [])
    ∷ row Told (0 ∷ 5 ∷ 8 ∷ 10 ∷ 13 ∷ 17 ∷ 23 ∷ 39 ∷ []) (5 ∷ 23 ∷ []) (38 ∷ []) (0 ∷ 5 ∷ 8 ∷ 10 ∷ 13 ∷ 17 ∷ 23 ∷ 28 ∷ 39 ∷ 42 ∷ []) []
    ∷ row Reasons (36 ∷ 40 ∷ []) [] [] (36 ∷ 38 ∷ 40 ∷ []) []
    ∷ row Full [] [] [] [] []
    ∷ row Lacks [] [] [] [] []
    ∷ row Counted (26 ∷ []) (26 ∷ []) (26 ∷ []) [] []
    ∷ row Refusals [] [] [] [] []
    ∷ row Clock (10 ∷ 11 ∷ 13 ∷ 15 ∷ 32 ∷ []) [] (10 ∷ 11 ∷ 15 ∷ 32 ∷ []) (7 ∷ 10 ∷ 11 ∷ 12 ∷ 13 ∷ 15 ∷ 16 ∷ 27 ∷ 28 ∷ 32 ∷ 33 ∷ []) []
    ∷ row Repeats [] [] [] [] []
    ∷ row Alone [] (19 ∷ 36 ∷ []) [] (2 ∷ []) []
    ∷ row Named [] [] [] [] []
    ∷ row Ranges [] [] [] [] [] ∷ []

abbrev pub HelpedWorked : Type 0
HelpedWorked = IsWorked helped_setting helped_items helped helped_table
