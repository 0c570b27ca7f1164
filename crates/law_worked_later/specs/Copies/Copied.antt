-- A row that is held is copied to a higher index, let go at the lower one, looked at while another is in its place, kept by a scan, and dropped: the
-- record, and what the laws refuse of it once a line is changed.
use Rattle.std.specs.Prelude.{List, [], ◌∷◌, ◌++◌, Some, None}
use Rattle.wfe_core.specs.words.declared.layout.Layout.{Layout}
use Rattle.wfe_core.specs.words.declared.config.SchemeKind.TheVariants.{He}
use Rattle.wfe_core.specs.defs.Entry.{Entry}
use Rattle.wfe_core.specs.defs.declared.call.Answer.TheVariants as answers
use Rattle.wfe_core.specs.defs.declared.call.Call.TheVariants as calls
use Rattle.wfe_core.specs.defs.declared.call.ClockMove.TheVariants as moves
use Rattle.wfe_core.specs.defs.declared.event.Event.TheVariants as events
use Rattle.wfe_core.specs.defs.declared.event.Guard.TheVariants as guards
use Rattle.wfe_core.specs.defs.declared.event.Root.TheVariants as roots
use Rattle.wfe_core.specs.Guards.{from_to}
use Rattle.model_history.specs.History.{Item}
use Rattle.model_history.specs.Among.{call, said, to_end}
use Rattle.law_worked.specs.Judges.Law.{Calls, Clears, Indexes, Copies, Reuse, Free, Placing, Order, Nexts, Retiring, Backs, Lists, Blocks, Reads, Due, Room, Eras, Moves, Advances, Births, Retires, Current, Single, Rising, Guards, Kinds, Throughout, Sources, Finds, Gots, Links, Behind, Bare, Rests, Map, Values, Emptied, Steps, Withdrawals, Tries, Raises, Hazards, Asks, CallSteps, Told, Reasons, Full, Lacks, Counted, Refusals, Clock, Repeats, Alone, Named, Ranges}
use Rattle.law_worked.specs.Refusals.{IsWorked, Row, row}
use Rattle.law_worked_later.specs.Copies.Settings.{table}

abbrev pub copied_setting : Layout
copied_setting = table He 2 4 8 2 2 100 100 6

abbrev pub copied_items : List Item
copied_items = call 0 (calls.Put 7 70) ++ to_end 0 ++ call 1 (calls.Hold 7) ++ to_end 1 ++ call 0 calls.Advance ++ to_end 0 ++ call 1 (calls.Copy 2 3) ++ to_end 1 ++ call 1 calls.Release ++ to_end 1 ++ call 0 (calls.Put 7 71) ++ to_end 0 ++ call 1 (calls.Look 3 7) ++ to_end 1 ++ call 0 calls.Scan ++ to_end 0 ++ call 1 (calls.DropIndex 3) ++ to_end 1

abbrev pub copied : List Entry
copied =
    said 0 (events.Begin (calls.Put 7 70))
    ∷ said 0 (events.Reserve (guards.Index 0 0) (from_to 1 1))
    ∷ said 0 (events.Null 0 4)
    ∷ said 0 (events.Give 0 1)
    ∷ said 0 (events.Link (roots.Bucket 0) 0)
    ∷ said 0 (events.Put 0 1 7 70)
    ∷ said 0 (events.Reserve (guards.Index 0 0) None)
    ∷ said 0 (events.End 13 (answers.Done 1 moves.Still))
    ∷ said 1 (events.Begin (calls.Hold 7))
    ∷ said 1 (events.Reserve (guards.Index 1 2) (from_to 1 1))
    ∷ said 1 (events.Held 2 0 4)
    ∷ said 1 (events.End 4 (answers.Holding 0))
    ∷ said 0 (events.Begin calls.Advance)
    ∷ said 0 (events.Era 2)
    ∷ said 0 (events.End 2 (answers.Clock (moves.Moved 2)))
    ∷ said 1 (events.Begin (calls.Copy 2 3))
    ∷ said 1 (events.Reserve (guards.Index 1 3) (from_to 1 1))
    ∷ said 1 (events.Copied 2 3 0)
    ∷ said 1 (events.End 2 (answers.Copied 0))
    ∷ said 1 (events.Begin calls.Release)
    ∷ said 1 (events.Clear 2 0)
    ∷ said 1 (events.Reserve (guards.Index 1 2) None)
    ∷ said 1 (events.End 1 answers.Released)
    ∷ said 0 (events.Begin (calls.Put 7 71))
    ∷ said 0 (events.Reserve (guards.Index 0 0) (from_to 2 2))
    ∷ said 0 (events.Held 0 0 4)
    ∷ said 0 (events.Give 1 2)
    ∷ said 0 (events.Link (roots.Bucket 0) 1)
    ∷ said 0 (events.Cut 0)
    ∷ said 0 (events.Put 0 2 7 71)
    ∷ said 0 (events.Clear 0 0)
    ∷ said 0 (events.Reserve (guards.Index 0 0) None)
    ∷ said 0 (events.Retire 0 1 2)
    ∷ said 0 (events.End 20 (answers.Done 2 moves.Still))
    ∷ said 1 (events.Begin (calls.Look 3 7))
    ∷ said 1 (events.End 4 (answers.Looked 0 1 (Some 70)))
    ∷ said 0 (events.Begin calls.Scan)
    ∷ said 0 (events.Read (guards.Index 0 0) None)
    ∷ said 0 (events.Read (guards.Index 0 1) None)
    ∷ said 0 (events.Read (guards.Index 0 2) None)
    ∷ said 0 (events.Read (guards.Index 0 3) None)
    ∷ said 0 (events.Read (guards.Index 1 0) None)
    ∷ said 0 (events.Read (guards.Index 1 1) None)
    ∷ said 0 (events.Read (guards.Index 1 2) None)
    ∷ said 0 (events.Read (guards.Index 1 3) (from_to 1 1))
    ∷ said 0 (events.End 8 (answers.Scanned 1 0))
    ∷ said 1 (events.Begin (calls.DropIndex 3))
    ∷ said 1 (events.Clear 3 0)
    ∷ said 1 (events.Reserve (guards.Index 1 3) None)
    ∷ said 1 (events.End 1 answers.Dropped) ∷ []

-- of each law the places at which it refuses a line that is dropped, told twice, told after the next one, altered, or slowed
abbrev pub copied_table : List Row
copied_table =
    row Calls (0 ∷ 7 ∷ 8 ∷ 11 ∷ 12 ∷ 14 ∷ 15 ∷ 18 ∷ 19 ∷ 22 ∷ 23 ∷ 33 ∷ 34 ∷ 35 ∷ 36 ∷ 46 ∷ []) (0 ∷ 7 ∷ 8 ∷ 11 ∷ 12 ∷ 14 ∷ 15 ∷ 18 ∷ 19 ∷ 22 ∷ 23 ∷ 33 ∷ 34 ∷ 35 ∷ 36 ∷ 45 ∷ 46 ∷ 49 ∷ []) (0 ∷ 6 ∷ 8 ∷ 10 ∷ 12 ∷ 13 ∷ 15 ∷ 17 ∷ 18 ∷ 19 ∷ 21 ∷ 23 ∷ 32 ∷ 34 ∷ 36 ∷ 44 ∷ 46 ∷ 48 ∷ []) [] []
    ∷ row Clears (10 ∷ 17 ∷ 25 ∷ []) (20 ∷ 30 ∷ 47 ∷ []) [] (10 ∷ 17 ∷ 20 ∷ 25 ∷ 30 ∷ 47 ∷ []) []
    ∷ row Indexes (8 ∷ 19 ∷ 46 ∷ []) [] (19 ∷ 46 ∷ []) (8 ∷ 19 ∷ 46 ∷ []) []
    ∷ row Copies (10 ∷ 15 ∷ []) (17 ∷ []) [] (10 ∷ 15 ∷ 17 ∷ []) []
    ∷ row Reuse [] [] [] (2 ∷ 10 ∷ 17 ∷ 25 ∷ []) []
    ∷ row Free [] (3 ∷ 26 ∷ []) [] (3 ∷ []) []
    ∷ row Placing (3 ∷ 4 ∷ 26 ∷ 27 ∷ []) (3 ∷ 4 ∷ 26 ∷ 27 ∷ []) (3 ∷ 26 ∷ []) (3 ∷ 4 ∷ 26 ∷ 27 ∷ []) []
    ∷ row Order (4 ∷ 5 ∷ 27 ∷ 28 ∷ 29 ∷ []) (4 ∷ 5 ∷ 27 ∷ 28 ∷ 29 ∷ []) (3 ∷ 4 ∷ 5 ∷ 26 ∷ 27 ∷ 28 ∷ 29 ∷ []) (4 ∷ 28 ∷ []) []
    ∷ row Nexts [] [] [] [] []
    ∷ row Retiring (28 ∷ 32 ∷ []) (28 ∷ 32 ∷ []) (32 ∷ []) (28 ∷ []) []
    ∷ row Backs [] [] [] [] []
    ∷ row Lists [] [] [] [] []
    ∷ row Blocks (37 ∷ 38 ∷ 39 ∷ 40 ∷ 41 ∷ 42 ∷ 43 ∷ 44 ∷ []) (37 ∷ 38 ∷ 39 ∷ 40 ∷ 41 ∷ 42 ∷ 43 ∷ 44 ∷ []) (36 ∷ 37 ∷ 38 ∷ 39 ∷ 40 ∷ 41 ∷ 42 ∷ 43 ∷ 44 ∷ []) [] []
    ∷ row Reads (16 ∷ 21 ∷ 31 ∷ []) [] [] (16 ∷ 21 ∷ 31 ∷ 37 ∷ 38 ∷ 39 ∷ 40 ∷ 41 ∷ 42 ∷ 43 ∷ 44 ∷ []) []
    ∷ row Due (36 ∷ []) (32 ∷ 37 ∷ 38 ∷ 39 ∷ 40 ∷ 41 ∷ 42 ∷ 43 ∷ 44 ∷ []) (36 ∷ []) (12 ∷ 36 ∷ []) []
    ∷ row Room (36 ∷ []) [] (36 ∷ []) [] []
    ∷ row Eras [] (13 ∷ []) [] (13 ∷ []) []
    ∷ row Moves (12 ∷ []) (13 ∷ []) [] (12 ∷ []) []
    ∷ row Advances [] [] [] [] []
    ∷ row Births (13 ∷ []) (13 ∷ []) [] [] []
    ∷ row Retires (3 ∷ 13 ∷ 28 ∷ []) (13 ∷ []) [] (3 ∷ 28 ∷ 32 ∷ []) []
    ∷ row Current (9 ∷ 13 ∷ []) (13 ∷ []) [] (1 ∷ 9 ∷ 21 ∷ 24 ∷ 31 ∷ 48 ∷ []) []
    ∷ row Single [] [] [] [] []
    ∷ row Rising [] [] [] [] []
    ∷ row Guards [] [] [] [] []
    ∷ row Kinds [] [] [] [] []
    ∷ row Throughout (3 ∷ 9 ∷ 16 ∷ 20 ∷ 24 ∷ 30 ∷ 47 ∷ []) [] (9 ∷ 16 ∷ 20 ∷ 24 ∷ 30 ∷ 47 ∷ []) (2 ∷ 3 ∷ 10 ∷ 17 ∷ 20 ∷ 25 ∷ 30 ∷ 47 ∷ []) []
    ∷ row Sources (0 ∷ 4 ∷ 8 ∷ 23 ∷ []) [] [] (2 ∷ 4 ∷ 10 ∷ 25 ∷ []) []
    ∷ row Finds (2 ∷ 25 ∷ []) [] [] (8 ∷ []) []
    ∷ row Gots [] [] [] [] []
    ∷ row Links (25 ∷ []) (4 ∷ 27 ∷ []) [] (4 ∷ 25 ∷ []) []
    ∷ row Behind [] [] [] [] []
    ∷ row Bare (30 ∷ []) [] [] (2 ∷ 25 ∷ 30 ∷ []) []
    ∷ row Rests (6 ∷ 9 ∷ 10 ∷ 16 ∷ 17 ∷ 20 ∷ 21 ∷ 31 ∷ 47 ∷ 48 ∷ []) [] (6 ∷ 10 ∷ 17 ∷ 21 ∷ 48 ∷ []) (6 ∷ 10 ∷ 17 ∷ 20 ∷ 21 ∷ 31 ∷ 47 ∷ 48 ∷ []) []
    ∷ row Map (5 ∷ []) (5 ∷ 29 ∷ []) [] [] []
    ∷ row Values [] [] [] [] []
    ∷ row Emptied [] [] [] [] []
    ∷ row Steps [] [] [] [] []
    ∷ row Withdrawals [] [] [] [] []
    ∷ row Tries (1 ∷ 6 ∷ 9 ∷ 24 ∷ []) (1 ∷ 9 ∷ 24 ∷ []) (1 ∷ 9 ∷ 24 ∷ []) (6 ∷ []) (2 ∷ 10 ∷ 25 ∷ [])
    ∷ row Raises [] [] [] [] []
    ∷ row Hazards [] [] [] [] []
    ∷ row Asks [] [] [] [] []
    ∷ row CallSteps (23 ∷ 34 ∷ []) [] (18 ∷ 34 ∷ []) (12 ∷ 36 ∷ []) (14 ∷ 18 ∷ 22 ∷ 35 ∷ 45 ∷ 49 ∷ [])
    ∷ row Told (0 ∷ 5 ∷ 8 ∷ 12 ∷ 15 ∷ 17 ∷ 19 ∷ 23 ∷ 29 ∷ 34 ∷ 36 ∷ 46 ∷ []) (5 ∷ 17 ∷ 29 ∷ []) (17 ∷ 18 ∷ 34 ∷ []) (0 ∷ 5 ∷ 8 ∷ 12 ∷ 15 ∷ 17 ∷ 18 ∷ 19 ∷ 22 ∷ 23 ∷ 29 ∷ 36 ∷ 49 ∷ []) []
    ∷ row Reasons (4 ∷ 5 ∷ 10 ∷ 17 ∷ 20 ∷ 32 ∷ 47 ∷ []) (32 ∷ []) (4 ∷ 10 ∷ 17 ∷ []) (4 ∷ 5 ∷ 10 ∷ 11 ∷ 15 ∷ 17 ∷ 18 ∷ 20 ∷ 34 ∷ 35 ∷ 45 ∷ 47 ∷ []) []
    ∷ row Full [] [] [] [] []
    ∷ row Lacks [] [] [] [] []
    ∷ row Counted (32 ∷ 36 ∷ []) (32 ∷ []) (32 ∷ []) [] []
    ∷ row Refusals [] [] [] [] []
    ∷ row Clock (12 ∷ 13 ∷ []) (32 ∷ []) (12 ∷ 13 ∷ []) (7 ∷ 12 ∷ 13 ∷ 14 ∷ 33 ∷ []) []
    ∷ row Repeats [] [] [] [] []
    ∷ row Alone [] (10 ∷ 17 ∷ 25 ∷ []) [] (2 ∷ []) []
    ∷ row Named [] [] [] [] []
    ∷ row Ranges [] [] [] [] [] ∷ []

abbrev pub CopiedWorked : Type 0
CopiedWorked = IsWorked copied_setting copied_items copied copied_table
