-- Two values are queued and taken, and then the queue is empty: the record, and what the laws refuse of it once a line is changed.
use Rattle.std.specs.Prelude.{List, [], ◌∷◌, ◌++◌, None}
use Rattle.wfe_core.specs.words.declared.layout.Layout.{Layout}
use Rattle.wfe_core.specs.words.declared.config.SchemeKind.TheVariants.{He}
use Rattle.wfe_core.specs.defs.Entry.{Entry}
use Rattle.wfe_core.specs.defs.declared.call.Answer.TheVariants as answers
use Rattle.wfe_core.specs.defs.declared.call.Call.TheVariants as calls
use Rattle.wfe_core.specs.defs.declared.call.ClockMove.TheVariants as moves
use Rattle.wfe_core.specs.defs.declared.event.Event.TheVariants as events
use Rattle.wfe_core.specs.defs.declared.event.Guard.TheVariants as guards
use Rattle.wfe_core.specs.defs.declared.event.Root.TheVariants as roots
use Rattle.wfe_core.specs.Guards.{from_to}
use Rattle.model_history.specs.History.{Item}
use Rattle.model_history.specs.Among.{call, said, setting, to_end}
use Rattle.law_worked.specs.Judges.Law.{Calls, Clears, Indexes, Copies, Reuse, Free, Placing, Order, Nexts, Retiring, Backs, Lists, Blocks, Reads, Due, Room, Eras, Moves, Advances, Births, Retires, Current, Single, Rising, Guards, Kinds, Throughout, Sources, Finds, Gots, Links, Behind, Bare, Rests, Map, Values, Emptied, Steps, Withdrawals, Tries, Raises, Hazards, Asks, CallSteps, Told, Reasons, Full, Lacks, Counted, Refusals, Clock, Repeats, Alone, Named, Ranges}
use Rattle.law_worked.specs.Refusals.{IsWorked, Row, row}

abbrev pub queued_setting : Layout
queued_setting = setting He 1 8 2 100 100 100

abbrev pub queued_items : List Item
queued_items = call 0 (calls.Enqueue 5) ++ to_end 0 ++ call 0 (calls.Enqueue 6) ++ to_end 0 ++ call 0 calls.Dequeue ++ to_end 0 ++ call 0 calls.Dequeue ++ to_end 0 ++ call 0 calls.Dequeue ++ to_end 0

abbrev pub queued : List Entry
queued =
    said 0 (events.Begin (calls.Enqueue 5))
    ∷ said 0 (events.Reserve (guards.Index 0 0) (from_to 1 1))
    ∷ said 0 (events.Held 0 8 4)
    ∷ said 0 (events.Give 0 1)
    ∷ said 0 (events.Link (roots.Next 8) 0)
    ∷ said 0 (events.Queued 1 5)
    ∷ said 0 (events.Link roots.Tail 0)
    ∷ said 0 (events.Clear 0 8)
    ∷ said 0 (events.Reserve (guards.Index 0 0) None)
    ∷ said 0 (events.End 15 (answers.Queued 1))
    ∷ said 0 (events.Begin (calls.Enqueue 6))
    ∷ said 0 (events.Reserve (guards.Index 0 0) (from_to 1 1))
    ∷ said 0 (events.Held 0 0 4)
    ∷ said 0 (events.Give 1 1)
    ∷ said 0 (events.Link (roots.Next 0) 1)
    ∷ said 0 (events.Queued 2 6)
    ∷ said 0 (events.Link roots.Tail 1)
    ∷ said 0 (events.Clear 0 0)
    ∷ said 0 (events.Reserve (guards.Index 0 0) None)
    ∷ said 0 (events.End 15 (answers.Queued 2))
    ∷ said 0 (events.Begin calls.Dequeue)
    ∷ said 0 (events.Reserve (guards.Index 0 0) (from_to 1 1))
    ∷ said 0 (events.Held 0 8 4)
    ∷ said 0 (events.Reserve (guards.Index 0 1) (from_to 1 1))
    ∷ said 0 (events.Held 1 0 5)
    ∷ said 0 (events.Link roots.Head 0)
    ∷ said 0 (events.Cut 8)
    ∷ said 0 (events.Taken 1 5)
    ∷ said 0 (events.Clear 1 0)
    ∷ said 0 (events.Reserve (guards.Index 0 1) None)
    ∷ said 0 (events.Clear 0 8)
    ∷ said 0 (events.Reserve (guards.Index 0 0) None)
    ∷ said 0 (events.Retire 8 1 1)
    ∷ said 0 (events.End 18 (answers.Taken 1 5 moves.Still))
    ∷ said 0 (events.Begin calls.Dequeue)
    ∷ said 0 (events.Reserve (guards.Index 0 0) (from_to 1 1))
    ∷ said 0 (events.Held 0 0 4)
    ∷ said 0 (events.Reserve (guards.Index 0 1) (from_to 1 1))
    ∷ said 0 (events.Held 1 1 5)
    ∷ said 0 (events.Link roots.Head 1)
    ∷ said 0 (events.Cut 0)
    ∷ said 0 (events.Taken 2 6)
    ∷ said 0 (events.Clear 1 1)
    ∷ said 0 (events.Reserve (guards.Index 0 1) None)
    ∷ said 0 (events.Clear 0 0)
    ∷ said 0 (events.Reserve (guards.Index 0 0) None)
    ∷ said 0 (events.Retire 0 1 1)
    ∷ said 0 (events.End 18 (answers.Taken 2 6 moves.Still))
    ∷ said 0 (events.Begin calls.Dequeue)
    ∷ said 0 (events.Reserve (guards.Index 0 0) (from_to 1 1))
    ∷ said 0 (events.Held 0 1 4)
    ∷ said 0 (events.Reserve (guards.Index 0 1) (from_to 1 1))
    ∷ said 0 (events.Null 1 4)
    ∷ said 0 (events.Reserve (guards.Index 0 1) None)
    ∷ said 0 (events.Clear 0 1)
    ∷ said 0 (events.Reserve (guards.Index 0 0) None)
    ∷ said 0 (events.End 11 answers.Empty) ∷ []

-- of each law the places at which it refuses a line that is dropped, told twice, told after the next one, altered, or slowed
abbrev pub queued_table : List Row
queued_table =
    row Calls (0 ∷ 9 ∷ 10 ∷ 19 ∷ 20 ∷ 33 ∷ 34 ∷ 47 ∷ 48 ∷ []) (0 ∷ 9 ∷ 10 ∷ 19 ∷ 20 ∷ 33 ∷ 34 ∷ 47 ∷ 48 ∷ 56 ∷ []) (0 ∷ 8 ∷ 9 ∷ 10 ∷ 18 ∷ 19 ∷ 20 ∷ 32 ∷ 33 ∷ 34 ∷ 46 ∷ 47 ∷ 48 ∷ 55 ∷ []) [] []
    ∷ row Clears (2 ∷ 12 ∷ 22 ∷ 24 ∷ 36 ∷ 38 ∷ 50 ∷ []) (7 ∷ 17 ∷ 28 ∷ 30 ∷ 42 ∷ 44 ∷ 54 ∷ []) [] (2 ∷ 7 ∷ 12 ∷ 17 ∷ 22 ∷ 24 ∷ 28 ∷ 30 ∷ 36 ∷ 38 ∷ 42 ∷ 44 ∷ 50 ∷ 54 ∷ []) []
    ∷ row Indexes (20 ∷ []) [] [] (20 ∷ 34 ∷ 48 ∷ []) []
    ∷ row Copies [] [] [] [] []
    ∷ row Reuse [] [] [] (12 ∷ []) []
    ∷ row Free [] (3 ∷ 13 ∷ []) [] (3 ∷ []) []
    ∷ row Placing (3 ∷ 4 ∷ 10 ∷ 13 ∷ 14 ∷ []) (3 ∷ 4 ∷ 13 ∷ 14 ∷ []) (3 ∷ 13 ∷ []) (3 ∷ 4 ∷ 13 ∷ 14 ∷ []) []
    ∷ row Order (4 ∷ 5 ∷ 14 ∷ 15 ∷ 25 ∷ 26 ∷ 27 ∷ 39 ∷ 40 ∷ 41 ∷ []) (4 ∷ 5 ∷ 14 ∷ 15 ∷ 25 ∷ 26 ∷ 27 ∷ 39 ∷ 40 ∷ 41 ∷ []) (3 ∷ 4 ∷ 5 ∷ 13 ∷ 14 ∷ 15 ∷ 24 ∷ 25 ∷ 26 ∷ 27 ∷ 38 ∷ 39 ∷ 40 ∷ 41 ∷ []) (25 ∷ 26 ∷ 40 ∷ []) []
    ∷ row Nexts (4 ∷ 6 ∷ 14 ∷ 25 ∷ []) (4 ∷ 6 ∷ 14 ∷ 16 ∷ 25 ∷ 39 ∷ []) [] (4 ∷ 6 ∷ 14 ∷ 16 ∷ 25 ∷ 39 ∷ []) []
    ∷ row Retiring (26 ∷ 32 ∷ 40 ∷ 46 ∷ []) (26 ∷ 32 ∷ 40 ∷ 46 ∷ []) (32 ∷ 46 ∷ []) (26 ∷ 40 ∷ []) []
    ∷ row Backs [] [] [] [] []
    ∷ row Lists [] [] [] [] []
    ∷ row Blocks [] [] [] [] []
    ∷ row Reads [] [] [] [] []
    ∷ row Due [] [] [] (20 ∷ 34 ∷ 48 ∷ []) []
    ∷ row Room [] [] [] [] []
    ∷ row Eras [] [] [] [] []
    ∷ row Moves [] [] [] [] []
    ∷ row Advances [] [] [] [] []
    ∷ row Births [] [] [] [] []
    ∷ row Retires (3 ∷ 26 ∷ 40 ∷ []) [] [] (3 ∷ 26 ∷ 32 ∷ 40 ∷ 46 ∷ []) []
    ∷ row Current [] [] [] (1 ∷ 11 ∷ 21 ∷ 23 ∷ 35 ∷ 37 ∷ 49 ∷ 51 ∷ []) []
    ∷ row Single [] [] [] [] []
    ∷ row Rising [] [] [] [] []
    ∷ row Guards [] [] [] [] []
    ∷ row Kinds [] [] [] [] []
    ∷ row Throughout (1 ∷ 3 ∷ 7 ∷ 11 ∷ 13 ∷ 17 ∷ 21 ∷ 23 ∷ 28 ∷ 30 ∷ 35 ∷ 37 ∷ 42 ∷ 44 ∷ 49 ∷ 54 ∷ []) [] (1 ∷ 7 ∷ 11 ∷ 17 ∷ 21 ∷ 23 ∷ 28 ∷ 30 ∷ 35 ∷ 37 ∷ 42 ∷ 44 ∷ 49 ∷ 54 ∷ []) (2 ∷ 3 ∷ 7 ∷ 12 ∷ 13 ∷ 17 ∷ 22 ∷ 24 ∷ 28 ∷ 30 ∷ 36 ∷ 38 ∷ 42 ∷ 44 ∷ 50 ∷ 52 ∷ 54 ∷ []) []
    ∷ row Sources (0 ∷ 6 ∷ 20 ∷ 25 ∷ 39 ∷ []) [] [] (2 ∷ 6 ∷ 12 ∷ 20 ∷ 22 ∷ 25 ∷ 34 ∷ 36 ∷ 39 ∷ 48 ∷ 50 ∷ []) []
    ∷ row Finds (2 ∷ 12 ∷ 22 ∷ 36 ∷ 50 ∷ []) [] (9 ∷ 19 ∷ 33 ∷ 47 ∷ []) [] []
    ∷ row Gots [] [] [] [] []
    ∷ row Links (2 ∷ 6 ∷ 12 ∷ 22 ∷ 24 ∷ 25 ∷ 36 ∷ 38 ∷ []) (6 ∷ 16 ∷ 25 ∷ 39 ∷ []) (6 ∷ 16 ∷ 24 ∷ 38 ∷ []) (2 ∷ 6 ∷ 12 ∷ 22 ∷ 24 ∷ 25 ∷ 36 ∷ 38 ∷ 39 ∷ []) []
    ∷ row Behind (4 ∷ 14 ∷ 22 ∷ 25 ∷ 36 ∷ 39 ∷ 50 ∷ []) [] (24 ∷ 38 ∷ []) (4 ∷ 14 ∷ 22 ∷ 24 ∷ 25 ∷ 36 ∷ 38 ∷ 39 ∷ 50 ∷ 52 ∷ []) []
    ∷ row Bare (7 ∷ 17 ∷ 28 ∷ 30 ∷ 42 ∷ 44 ∷ 54 ∷ []) [] [] (2 ∷ 7 ∷ 12 ∷ 17 ∷ 22 ∷ 24 ∷ 28 ∷ 30 ∷ 36 ∷ 38 ∷ 42 ∷ 44 ∷ 50 ∷ 52 ∷ 54 ∷ []) []
    ∷ row Rests (8 ∷ 18 ∷ 29 ∷ 31 ∷ 43 ∷ 45 ∷ 53 ∷ 55 ∷ []) [] (8 ∷ 18 ∷ 55 ∷ []) (8 ∷ 18 ∷ 29 ∷ 31 ∷ 43 ∷ 45 ∷ 53 ∷ 55 ∷ []) []
    ∷ row Map [] [] [] [] []
    ∷ row Values (5 ∷ 15 ∷ 27 ∷ []) (5 ∷ 15 ∷ 27 ∷ 41 ∷ []) [] (5 ∷ 15 ∷ 27 ∷ 41 ∷ []) []
    ∷ row Emptied (5 ∷ 15 ∷ 27 ∷ 41 ∷ []) (5 ∷ 15 ∷ 27 ∷ 41 ∷ []) [] [] []
    ∷ row Steps [] [] [] [] []
    ∷ row Withdrawals [] [] [] [] []
    ∷ row Tries (1 ∷ 8 ∷ 11 ∷ 18 ∷ 21 ∷ 23 ∷ 29 ∷ 31 ∷ 35 ∷ 37 ∷ 43 ∷ 45 ∷ 49 ∷ 51 ∷ []) (1 ∷ 11 ∷ 21 ∷ 23 ∷ 35 ∷ 37 ∷ 49 ∷ 51 ∷ []) (1 ∷ 11 ∷ 21 ∷ 23 ∷ 35 ∷ 37 ∷ 49 ∷ 51 ∷ 52 ∷ []) (8 ∷ 18 ∷ 29 ∷ 31 ∷ 43 ∷ 45 ∷ 52 ∷ []) (2 ∷ 12 ∷ 22 ∷ 24 ∷ 36 ∷ 38 ∷ 50 ∷ 52 ∷ [])
    ∷ row Raises [] [] [] [] []
    ∷ row Hazards [] [] [] [] []
    ∷ row Asks [] [] [] [] []
    ∷ row CallSteps [] [] [] (20 ∷ 34 ∷ 48 ∷ []) []
    ∷ row Told (0 ∷ 5 ∷ 10 ∷ 15 ∷ 20 ∷ 27 ∷ 41 ∷ []) (5 ∷ 15 ∷ 27 ∷ 41 ∷ []) (9 ∷ 19 ∷ 33 ∷ 47 ∷ []) (0 ∷ 5 ∷ 9 ∷ 10 ∷ 15 ∷ 19 ∷ 20 ∷ 27 ∷ 33 ∷ 34 ∷ 41 ∷ 47 ∷ 48 ∷ 56 ∷ []) []
    ∷ row Reasons (52 ∷ []) [] [] (52 ∷ []) []
    ∷ row Full [] [] [] [] []
    ∷ row Lacks [] [] [] [] []
    ∷ row Counted (32 ∷ 34 ∷ 46 ∷ 48 ∷ []) (32 ∷ 46 ∷ []) (32 ∷ 33 ∷ 46 ∷ 47 ∷ []) [] []
    ∷ row Refusals (48 ∷ []) [] [] [] []
    ∷ row Clock [] [] [] [] []
    ∷ row Repeats [] (50 ∷ []) [] [] []
    ∷ row Alone (7 ∷ 17 ∷ 28 ∷ 30 ∷ 42 ∷ 44 ∷ []) (2 ∷ 12 ∷ 22 ∷ 24 ∷ 36 ∷ 38 ∷ 50 ∷ []) [] [] []
    ∷ row Named [] [] [] [] []
    ∷ row Ranges [] [] [] (2 ∷ 7 ∷ 22 ∷ 26 ∷ 30 ∷ []) [] ∷ []

abbrev pub QueuedWorked : Type 0
QueuedWorked = IsWorked queued_setting queued_items queued queued_table
