-- Two seats on one table: they change the same bucket in turn, and queue and take values; a row is given up, rows go back early and late,
-- one call finds no free row, and another seat has moved the clock before.
use Rattle.std.specs.Prelude.{List, None, Some, [], false, true, ◌++◌, ◌∷◌}
use Rattle.law_all.specs.inv.model.Locals.{Group}
use Rattle.law_all.specs.inv.model.defs.declared.call.Answer.TheVariants as answers
use Rattle.law_all.specs.inv.model.defs.declared.call.Call.{Call}
use Rattle.law_all.specs.inv.model.defs.declared.call.Call.TheVariants as calls
use Rattle.law_all.specs.inv.model.defs.declared.call.ClockMove.TheVariants as moves
use Rattle.law_all.specs.inv.model.defs.declared.event.Event.{Event}
use Rattle.law_all.specs.inv.model.defs.declared.event.Event.TheVariants as events
use Rattle.law_all.specs.inv.model.words.declared.config.Config.{Config}
use Rattle.law_all.specs.inv.history.Among.{call}
use Rattle.law_all.specs.inv.history.History.{Item, times}
use Rattle.law_all.specs.RunLaw.{AtClose}
use Rattle.law_worked.specs.RunRecords.Runs.{IsWorked, Run, group, life, notes, setting}

abbrev pub shared_setting : Config
shared_setting = setting 2 5 2 2 9 9

-- the calls as they begin, and the steps of the seats between; a seat makes none once its call has ended
abbrev pub shared_items : List Item
shared_items =
    (call 1 (calls.Put 2 71) ++ times 4 1)
    ++ (call 0 (calls.Put 0 99) ++ times 90 0 ++ times 90 1)
    ++ (call 0 (calls.Remove 0) ++ times 19 0)
    ++ (call 1 (calls.Put 1 54) ++ times 90 1)
    ++ (call 1 calls.Scan ++ times 90 1 ++ times 90 0)
    ++ (call 1 (calls.Get 2) ++ times 5 1)
    ++ (call 0 (calls.Enqueue 71) ++ times 90 0)
    ++ (call 0 (calls.Put 0 33) ++ times 90 0 ++ times 90 1)
    ++ (call 0 calls.Dequeue ++ times 19 0)
    ++ (call 1 (calls.Put 0 42) ++ times 90 1 ++ times 90 0)
    ++ (call 0 calls.Dequeue ++ times 90 0)
    ++ (call 0 (calls.Get 0) ++ times 1 0)
    ++ (call 1 (calls.Enqueue 94) ++ times 90 1 ++ times 90 0)
    ++ (call 1 (calls.Remove 0) ++ times 10 1)
    ++ (call 0 (calls.Remove 0) ++ times 90 0 ++ times 90 1)

-- the calls of each seat
abbrev pub shared_scripts : List (List Call)
shared_scripts =
    (calls.Put 0 99 ∷ calls.Remove 0 ∷ calls.Enqueue 71 ∷ calls.Put 0 33 ∷ calls.Dequeue ∷ calls.Dequeue ∷ calls.Get 0 ∷ calls.Remove 0 ∷ [])
    ∷ (calls.Put 2 71 ∷ calls.Put 1 54 ∷ calls.Scan ∷ calls.Get 2 ∷ calls.Put 0 42 ∷ calls.Enqueue 94 ∷ calls.Remove 0 ∷ []) ∷ []

-- each with its answer and its notes
abbrev pub shared_log_0 : List Group
shared_log_0 =
    group (calls.Put 0 99) (answers.Done 1 moves.Still) (notes 13 (Some (0, 1)) false None [] 0)
    ∷ group (calls.Remove 0) (answers.Done 3 moves.Still) (notes 23 (Some (2, 1)) false (life 1 1 1) [] 0)
    ∷ group (calls.Enqueue 71) (answers.Queued 1) (notes 16 (Some (4, 1)) false None [] 0)
    ∷ group (calls.Put 0 33) answers.Full (notes 30 None false None [] 0)
    ∷ group calls.Dequeue (answers.Taken 1 71 (moves.Other 4)) (notes 28 None false (life 5 1 2) (1 ∷ 5 ∷ []) 0)
    ∷ group calls.Dequeue answers.Empty (notes 11 None false None [] 0)
    ∷ group (calls.Get 0) (answers.Got 4 (Some 42)) (notes 10 None false None [] 0)
    ∷ group (calls.Remove 0) (answers.Done 5 moves.Still) (notes 22 (Some (5, 4)) false (life 0 3 4) [] 0) ∷ []

abbrev pub shared_log_1 : List Group
shared_log_1 =
    group (calls.Put 2 71) (answers.Done 2 moves.Still) (notes 33 (Some (1, 1)) false (life 0 1 1) [] 0)
    ∷ group (calls.Put 1 54) (answers.Done 1 moves.Still) (notes 14 (Some (3, 1)) false None [] 0)
    ∷ group calls.Scan (answers.Scanned 1 0) (notes 6 None false None [] 0)
    ∷ group (calls.Get 2) (answers.Got 3 (Some 71)) (notes 9 None false None [] 0)
    ∷ group (calls.Put 0 42) (answers.Done 4 (moves.Moved 4)) (notes 52 (Some (0, 3)) false (life 2 1 3) (0 ∷ 2 ∷ []) 1)
    ∷ group (calls.Enqueue 94) (answers.Queued 2) (notes 15 (Some (1, 4)) false None [] 0)
    ∷ group (calls.Remove 0) (answers.Absent 5) (notes 29 (Some (2, 4)) true None [] 0) ∷ []

-- the table as they left it
abbrev pub shared_closed : AtClose
shared_closed =
    record {
      clock = 4;
      buckets = record { version = 5; pairs = (2, 71) ∷ [] } ∷ record { version = 1; pairs = (1, 54) ∷ [] } ∷ [];
      queue = (2, 94) ∷ [];
      used = 0 ∷ 1 ∷ 3 ∷ 4 ∷ 5 ∷ [];
    }

abbrev pub shared : Run
shared = record { config = shared_setting; logs = shared_log_0 ∷ shared_log_1 ∷ []; closed = shared_closed }

-- what each seat prints
abbrev pub shared_lines_0 : List Event
shared_lines_0 =
    events.Begin (calls.Put 0 99)
    ∷ events.Give 0 1
    ∷ events.Put 0 1 0 99
    ∷ events.End 13 (answers.Done 1 moves.Still)
    ∷ events.Begin (calls.Remove 0)
    ∷ events.Give 2 1
    ∷ events.Removed 0 3 0
    ∷ events.Retire 1 1 1
    ∷ events.End 23 (answers.Done 3 moves.Still)
    ∷ events.Begin (calls.Enqueue 71)
    ∷ events.Give 4 1
    ∷ events.Queued 1 71
    ∷ events.End 16 (answers.Queued 1)
    ∷ events.Begin (calls.Put 0 33)
    ∷ events.End 30 answers.Full
    ∷ events.Begin calls.Dequeue
    ∷ events.Taken 1 71
    ∷ events.Retire 5 1 2
    ∷ events.Back 1
    ∷ events.Back 5
    ∷ events.End 28 (answers.Taken 1 71 (moves.Other 4))
    ∷ events.Begin calls.Dequeue
    ∷ events.End 11 answers.Empty
    ∷ events.Begin (calls.Get 0)
    ∷ events.Got 0 4 0 (Some 42)
    ∷ events.End 10 (answers.Got 4 (Some 42))
    ∷ events.Begin (calls.Remove 0)
    ∷ events.Give 5 4
    ∷ events.Removed 0 5 0
    ∷ events.Retire 0 3 4
    ∷ events.End 22 (answers.Done 5 moves.Still) ∷ []

abbrev pub shared_lines_1 : List Event
shared_lines_1 =
    events.Begin (calls.Put 2 71)
    ∷ events.Give 1 1
    ∷ events.Put 0 2 2 71
    ∷ events.Retire 0 1 1
    ∷ events.End 33 (answers.Done 2 moves.Still)
    ∷ events.Begin (calls.Put 1 54)
    ∷ events.Give 3 1
    ∷ events.Put 1 1 1 54
    ∷ events.End 14 (answers.Done 1 moves.Still)
    ∷ events.Begin calls.Scan
    ∷ events.End 6 (answers.Scanned 1 0)
    ∷ events.Begin (calls.Get 2)
    ∷ events.Got 0 3 2 (Some 71)
    ∷ events.End 9 (answers.Got 3 (Some 71))
    ∷ events.Begin (calls.Put 0 42)
    ∷ events.Back 0
    ∷ events.Give 0 3
    ∷ events.Put 0 4 0 42
    ∷ events.Retire 2 1 3
    ∷ events.Back 2
    ∷ events.End 52 (answers.Done 4 (moves.Moved 4))
    ∷ events.Begin (calls.Enqueue 94)
    ∷ events.Give 1 4
    ∷ events.Queued 2 94
    ∷ events.End 15 (answers.Queued 2)
    ∷ events.Begin (calls.Remove 0)
    ∷ events.Give 2 4
    ∷ events.Unused 2
    ∷ events.End 29 (answers.Absent 5) ∷ []

abbrev pub SharedWorked : Type 0
SharedWorked = IsWorked shared_items shared shared_scripts (shared_lines_0 ∷ shared_lines_1 ∷ [])
