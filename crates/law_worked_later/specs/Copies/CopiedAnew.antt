-- Under Wait-Free Eras a later version is copied to where an earlier one stands: the record, and what the laws refuse of it once a line is changed.
use Rattle.std.specs.Prelude.{List, [], ◌∷◌, ◌++◌, Some, None}
use Rattle.wfe_core.specs.words.declared.layout.Layout.{Layout}
use Rattle.wfe_core.specs.words.declared.config.SchemeKind.TheVariants.{Wfe}
use Rattle.wfe_core.specs.defs.Entry.{Entry}
use Rattle.wfe_core.specs.defs.declared.call.Answer.TheVariants as answers
use Rattle.wfe_core.specs.defs.declared.call.Call.TheVariants as calls
use Rattle.wfe_core.specs.defs.declared.call.ClockMove.TheVariants as moves
use Rattle.wfe_core.specs.defs.declared.event.Event.TheVariants as events
use Rattle.wfe_core.specs.defs.declared.event.Guard.TheVariants as guards
use Rattle.wfe_core.specs.defs.declared.event.Root.TheVariants as roots
use Rattle.wfe_core.specs.Guards.{from_to}
use Rattle.model_history.specs.History.{Item}
use Rattle.model_history.specs.Among.{call, said, to_end}
use Rattle.law_worked.specs.Judges.Law.{Calls, Clears, Indexes, Copies, Reuse, Free, Placing, Order, Nexts, Retiring, Backs, Lists, Blocks, Reads, Due, Room, Eras, Moves, Advances, Births, Retires, Current, Single, Rising, Guards, Kinds, Throughout, Sources, Finds, Gots, Links, Behind, Bare, Rests, Map, Values, Emptied, Steps, Withdrawals, Tries, Raises, Hazards, Asks, CallSteps, Told, Reasons, Full, Lacks, Counted, Refusals, Clock, Repeats, Alone, Named, Ranges}
use Rattle.law_worked.specs.Refusals.{IsWorked, Row, row}
use Rattle.law_worked_later.specs.Copies.Settings.{table}

abbrev pub copied_anew_setting : Layout
copied_anew_setting = table Wfe 2 4 8 2 100 100 100 6

abbrev pub copied_anew_items : List Item
copied_anew_items = call 0 (calls.Put 7 70) ++ to_end 0 ++ call 1 (calls.Hold 7) ++ to_end 1 ++ call 1 (calls.Copy 2 3) ++ to_end 1 ++ call 0 (calls.Put 7 71) ++ to_end 0 ++ call 1 (calls.Hold 7) ++ to_end 1 ++ call 0 calls.Advance ++ to_end 0 ++ call 1 (calls.Copy 2 3) ++ to_end 1 ++ call 1 (calls.DropIndex 2) ++ to_end 1 ++ call 1 (calls.Look 2 7) ++ to_end 1 ++ call 1 (calls.Look 3 7) ++ to_end 1

abbrev pub copied_anew : List Entry
copied_anew =
    said 0 (events.Begin (calls.Put 7 70))
    ∷ said 0 (events.Reserve (guards.Index 0 0) (from_to 1 1))
    ∷ said 0 (events.Null 0 4)
    ∷ said 0 (events.Give 0 1)
    ∷ said 0 (events.Link (roots.Bucket 0) 0)
    ∷ said 0 (events.Put 0 1 7 70)
    ∷ said 0 (events.Reserve (guards.Index 0 0) None)
    ∷ said 0 (events.End 13 (answers.Done 1 moves.Still))
    ∷ said 1 (events.Begin (calls.Hold 7))
    ∷ said 1 (events.Reserve (guards.Index 1 2) (from_to 1 1))
    ∷ said 1 (events.Held 2 0 4)
    ∷ said 1 (events.End 4 (answers.Holding 0))
    ∷ said 1 (events.Begin (calls.Copy 2 3))
    ∷ said 1 (events.Reserve (guards.Index 1 3) (from_to 1 1))
    ∷ said 1 (events.Copied 2 3 0)
    ∷ said 1 (events.End 2 (answers.Copied 0))
    ∷ said 0 (events.Begin (calls.Put 7 71))
    ∷ said 0 (events.Reserve (guards.Index 0 0) (from_to 1 1))
    ∷ said 0 (events.Held 0 0 4)
    ∷ said 0 (events.Give 1 1)
    ∷ said 0 (events.Link (roots.Bucket 0) 1)
    ∷ said 0 (events.Cut 0)
    ∷ said 0 (events.Put 0 2 7 71)
    ∷ said 0 (events.Clear 0 0)
    ∷ said 0 (events.Reserve (guards.Index 0 0) None)
    ∷ said 0 (events.Retire 0 1 1)
    ∷ said 0 (events.End 20 (answers.Done 2 moves.Still))
    ∷ said 1 (events.Begin (calls.Hold 7))
    ∷ said 1 (events.Clear 2 0)
    ∷ said 1 (events.Reserve (guards.Index 1 2) None)
    ∷ said 1 (events.Reserve (guards.Index 1 2) (from_to 1 1))
    ∷ said 1 (events.Held 2 1 4)
    ∷ said 1 (events.End 5 (answers.Holding 1))
    ∷ said 0 (events.Begin calls.Advance)
    ∷ said 0 (events.Era 2)
    ∷ said 0 (events.End 4 (answers.Clock (moves.Moved 2)))
    ∷ said 1 (events.Begin (calls.Copy 2 3))
    ∷ said 1 (events.Clear 3 0)
    ∷ said 1 (events.Reserve (guards.Index 1 3) (from_to 1 1))
    ∷ said 1 (events.Copied 2 3 1)
    ∷ said 1 (events.End 2 (answers.Copied 1))
    ∷ said 1 (events.Begin (calls.DropIndex 2))
    ∷ said 1 (events.Clear 2 1)
    ∷ said 1 (events.Reserve (guards.Index 1 2) None)
    ∷ said 1 (events.End 1 answers.Dropped)
    ∷ said 1 (events.Begin (calls.Look 2 7))
    ∷ said 1 (events.End 1 answers.Nothing)
    ∷ said 1 (events.Begin (calls.Look 3 7))
    ∷ said 1 (events.End 4 (answers.Looked 1 2 (Some 71))) ∷ []

-- of each law the places at which it refuses a line that is dropped, told twice, told after the next one, altered, or slowed
abbrev pub copied_anew_table : List Row
copied_anew_table =
    row Calls (0 ∷ 7 ∷ 8 ∷ 11 ∷ 12 ∷ 15 ∷ 16 ∷ 26 ∷ 27 ∷ 32 ∷ 33 ∷ 36 ∷ 40 ∷ 41 ∷ 44 ∷ 45 ∷ 46 ∷ 47 ∷ []) (0 ∷ 7 ∷ 8 ∷ 11 ∷ 12 ∷ 15 ∷ 16 ∷ 26 ∷ 27 ∷ 32 ∷ 33 ∷ 35 ∷ 36 ∷ 40 ∷ 41 ∷ 44 ∷ 45 ∷ 46 ∷ 47 ∷ 48 ∷ []) (0 ∷ 6 ∷ 8 ∷ 10 ∷ 11 ∷ 12 ∷ 14 ∷ 16 ∷ 25 ∷ 27 ∷ 31 ∷ 33 ∷ 34 ∷ 36 ∷ 39 ∷ 40 ∷ 41 ∷ 43 ∷ 44 ∷ 45 ∷ 46 ∷ 47 ∷ []) [] []
    ∷ row Clears (10 ∷ 14 ∷ 18 ∷ 31 ∷ []) (23 ∷ 28 ∷ 37 ∷ 42 ∷ []) [] (10 ∷ 14 ∷ 18 ∷ 23 ∷ 28 ∷ 31 ∷ 37 ∷ 42 ∷ []) []
    ∷ row Indexes (8 ∷ 27 ∷ 36 ∷ 41 ∷ []) [] (27 ∷ 36 ∷ 41 ∷ []) (8 ∷ 27 ∷ 36 ∷ 41 ∷ []) []
    ∷ row Copies (10 ∷ 12 ∷ 31 ∷ 36 ∷ 37 ∷ []) (14 ∷ 39 ∷ []) [] (10 ∷ 12 ∷ 14 ∷ 31 ∷ 36 ∷ 37 ∷ 39 ∷ []) []
    ∷ row Reuse [] [] [] (2 ∷ 10 ∷ 14 ∷ 18 ∷ []) []
    ∷ row Free [] (3 ∷ 19 ∷ []) [] (3 ∷ []) []
    ∷ row Placing (3 ∷ 4 ∷ 16 ∷ 19 ∷ 20 ∷ []) (3 ∷ 4 ∷ 19 ∷ 20 ∷ []) (3 ∷ 19 ∷ []) (3 ∷ 4 ∷ 19 ∷ 20 ∷ []) []
    ∷ row Order (4 ∷ 5 ∷ 20 ∷ 21 ∷ 22 ∷ []) (4 ∷ 5 ∷ 20 ∷ 21 ∷ 22 ∷ []) (3 ∷ 4 ∷ 5 ∷ 19 ∷ 20 ∷ 21 ∷ 22 ∷ []) (4 ∷ 21 ∷ []) []
    ∷ row Nexts [] [] [] [] []
    ∷ row Retiring (21 ∷ 25 ∷ []) (21 ∷ 25 ∷ []) (25 ∷ []) (21 ∷ []) []
    ∷ row Backs [] [] [] [] []
    ∷ row Lists [] [] [] [] []
    ∷ row Blocks [] [] [] [] []
    ∷ row Reads [] [] [] [] []
    ∷ row Due [] [] [] (33 ∷ []) []
    ∷ row Room [] [] [] [] []
    ∷ row Eras [] (34 ∷ []) [] (34 ∷ []) []
    ∷ row Moves (33 ∷ []) (34 ∷ []) [] (33 ∷ []) []
    ∷ row Advances [] [] [] [] []
    ∷ row Births [] [] [] [] []
    ∷ row Retires (3 ∷ 21 ∷ []) [] [] (3 ∷ 21 ∷ 25 ∷ []) []
    ∷ row Current (30 ∷ []) [] (29 ∷ []) (1 ∷ 9 ∷ 13 ∷ 17 ∷ 30 ∷ 43 ∷ []) []
    ∷ row Single [] [] [] [] []
    ∷ row Rising [] [] [] [] []
    ∷ row Guards [] [] [] [] []
    ∷ row Kinds [] [] [] [] []
    ∷ row Throughout (3 ∷ 9 ∷ 13 ∷ 17 ∷ 19 ∷ 23 ∷ 28 ∷ 30 ∷ 42 ∷ []) [] (9 ∷ 13 ∷ 17 ∷ 23 ∷ 28 ∷ 29 ∷ 30 ∷ 42 ∷ []) (2 ∷ 3 ∷ 9 ∷ 10 ∷ 13 ∷ 14 ∷ 18 ∷ 19 ∷ 23 ∷ 28 ∷ 31 ∷ 39 ∷ 42 ∷ []) []
    ∷ row Sources (0 ∷ 4 ∷ 8 ∷ 20 ∷ 27 ∷ []) [] [] (2 ∷ 4 ∷ 10 ∷ 18 ∷ 20 ∷ 31 ∷ []) []
    ∷ row Finds (2 ∷ 18 ∷ []) [] [] (8 ∷ 27 ∷ []) []
    ∷ row Gots [] [] [] [] []
    ∷ row Links (18 ∷ []) (4 ∷ 20 ∷ []) [] (4 ∷ 18 ∷ []) []
    ∷ row Behind [] [] [] [] []
    ∷ row Bare (23 ∷ []) [] [] (2 ∷ 18 ∷ 23 ∷ []) []
    ∷ row Rests (6 ∷ 9 ∷ 10 ∷ 13 ∷ 14 ∷ 24 ∷ 28 ∷ 30 ∷ 31 ∷ 39 ∷ 42 ∷ 43 ∷ []) [] (6 ∷ 10 ∷ 14 ∷ 29 ∷ 31 ∷ 39 ∷ 43 ∷ []) (6 ∷ 24 ∷ 28 ∷ 31 ∷ 42 ∷ 43 ∷ []) []
    ∷ row Map (5 ∷ []) (5 ∷ 22 ∷ []) [] [] []
    ∷ row Values [] [] [] [] []
    ∷ row Emptied [] [] [] [] []
    ∷ row Steps [] [] [] [] (2 ∷ 10 ∷ 18 ∷ 31 ∷ [])
    ∷ row Withdrawals [] [] [] [] []
    ∷ row Tries [] [] [] [] []
    ∷ row Raises [] [] [] [] []
    ∷ row Hazards [] [] [] [] []
    ∷ row Asks [] [] [] [] []
    ∷ row CallSteps (27 ∷ []) [] (11 ∷ 40 ∷ []) (33 ∷ []) (15 ∷ 35 ∷ 40 ∷ 44 ∷ 46 ∷ 48 ∷ [])
    ∷ row Told (0 ∷ 5 ∷ 8 ∷ 12 ∷ 14 ∷ 16 ∷ 22 ∷ 27 ∷ 33 ∷ 36 ∷ 39 ∷ 41 ∷ 45 ∷ []) (5 ∷ 14 ∷ 22 ∷ 39 ∷ []) (11 ∷ 14 ∷ 39 ∷ 40 ∷ 44 ∷ 45 ∷ []) (0 ∷ 5 ∷ 8 ∷ 12 ∷ 14 ∷ 15 ∷ 16 ∷ 22 ∷ 27 ∷ 33 ∷ 36 ∷ 39 ∷ 40 ∷ 44 ∷ 46 ∷ []) []
    ∷ row Reasons (10 ∷ 14 ∷ 20 ∷ 22 ∷ 28 ∷ 31 ∷ 39 ∷ 42 ∷ 47 ∷ []) (5 ∷ []) (10 ∷ 14 ∷ 31 ∷ 39 ∷ 46 ∷ 47 ∷ []) (10 ∷ 11 ∷ 12 ∷ 14 ∷ 15 ∷ 20 ∷ 22 ∷ 28 ∷ 31 ∷ 32 ∷ 36 ∷ 39 ∷ 40 ∷ 41 ∷ 42 ∷ 47 ∷ 48 ∷ []) []
    ∷ row Full [] [] [] [] []
    ∷ row Lacks [] [] [] [] []
    ∷ row Counted (25 ∷ 33 ∷ []) (25 ∷ []) (25 ∷ []) [] []
    ∷ row Refusals [] [] [] [] []
    ∷ row Clock (33 ∷ 34 ∷ []) [] (33 ∷ 34 ∷ []) (7 ∷ 26 ∷ 33 ∷ 34 ∷ 35 ∷ []) []
    ∷ row Repeats [] [] [] [] []
    ∷ row Alone (28 ∷ 37 ∷ []) (10 ∷ 14 ∷ 18 ∷ 31 ∷ 39 ∷ []) [] (2 ∷ []) []
    ∷ row Named [] [] [] [] []
    ∷ row Ranges [] [] [] [] [] ∷ []

abbrev pub CopiedAnewWorked : Type 0
CopiedAnewWorked = IsWorked copied_anew_setting copied_anew_items copied_anew copied_anew_table
