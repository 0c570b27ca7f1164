-- Two seats come to the last version of a bucket, to the last number of the queue, and to the last era.
use Rattle.std.specs.Prelude.{List, None, Some, [], false, true, ◌++◌, ◌∷◌}
use Rattle.law_all.specs.inv.model.Locals.{Group}
use Rattle.law_all.specs.inv.model.defs.declared.call.Answer.TheVariants as answers
use Rattle.law_all.specs.inv.model.defs.declared.call.Call.{Call}
use Rattle.law_all.specs.inv.model.defs.declared.call.Call.TheVariants as calls
use Rattle.law_all.specs.inv.model.defs.declared.call.ClockMove.TheVariants as moves
use Rattle.law_all.specs.inv.model.defs.declared.event.Event.{Event}
use Rattle.law_all.specs.inv.model.defs.declared.event.Event.TheVariants as events
use Rattle.law_all.specs.inv.model.words.declared.config.Config.{Config}
use Rattle.law_all.specs.inv.history.Among.{call}
use Rattle.law_all.specs.inv.history.History.{Item, times}
use Rattle.law_all.specs.RunLaw.{AtClose}
use Rattle.law_worked.specs.RunRecords.Runs.{IsWorked, Run, group, life, notes, setting}

abbrev pub spent_setting : Config
spent_setting = setting 2 5 2 1 3 2

-- the calls as they begin, and the steps of the seats between; a seat makes none once its call has ended
abbrev pub spent_items : List Item
spent_items =
    (call 0 (calls.Put 0 39) ++ times 21 0)
    ++ (call 1 (calls.Enqueue 62) ++ times 90 1 ++ times 90 0)
    ++ (call 0 (calls.Remove 0) ++ times 8 0)
    ++ (call 1 (calls.Put 0 57) ++ times 90 1 ++ times 90 0)
    ++ (call 1 (calls.Put 1 16) ++ times 90 1)
    ++ (call 0 calls.Dequeue ++ times 6 0)
    ++ (call 1 (calls.Enqueue 12) ++ times 90 1)
    ++ (call 1 (calls.Put 1 43) ++ times 90 1)
    ++ (call 1 (calls.Enqueue 59) ++ times 90 1 ++ times 90 0)
    ++ (call 0 (calls.Put 0 92) ++ times 90 0)
    ++ (call 0 calls.Advance ++ times 90 0)

-- the calls of each seat
abbrev pub spent_scripts : List (List Call)
spent_scripts =
    (calls.Put 0 39 ∷ calls.Remove 0 ∷ calls.Dequeue ∷ calls.Put 0 92 ∷ calls.Advance ∷ [])
    ∷ (calls.Enqueue 62 ∷ calls.Put 0 57 ∷ calls.Put 1 16 ∷ calls.Enqueue 12 ∷ calls.Put 1 43 ∷ calls.Enqueue 59 ∷ []) ∷ []

-- each with its answer and its notes
abbrev pub spent_log_0 : List Group
spent_log_0 =
    group (calls.Put 0 39) (answers.Done 1 moves.Still) (notes 13 (Some (0, 1)) false None [] 0)
    ∷ group (calls.Remove 0) (answers.Spent 2) (notes 26 (Some (3, 2)) true None [] 0)
    ∷ group calls.Dequeue (answers.Taken 1 62 (moves.EraSpent 3)) (notes 29 None false (life 5 1 3) (5 ∷ []) 0)
    ∷ group (calls.Put 0 92) (answers.Spent 2) (notes 9 None false None [] 0)
    ∷ group calls.Advance (answers.Clock (moves.EraSpent 3)) (notes 1 None false None [] 0) ∷ []

abbrev pub spent_log_1 : List Group
spent_log_1 =
    group (calls.Enqueue 62) (answers.Queued 1) (notes 16 (Some (1, 1)) false None [] 0)
    ∷ group (calls.Put 0 57) (answers.Done 2 (moves.Moved 2)) (notes 28 (Some (2, 1)) false (life 0 1 1) [] 0)
    ∷ group (calls.Put 1 16) (answers.Done 1 moves.Still) (notes 13 (Some (3, 2)) false None [] 0)
    ∷ group (calls.Enqueue 12) (answers.Queued 2) (notes 15 (Some (4, 2)) false None [] 0)
    ∷ group (calls.Put 1 43) (answers.Done 2 (moves.EraSpent 3)) (notes 48 (Some (0, 3)) false (life 3 2 3) (0 ∷ []) 1)
    ∷ group (calls.Enqueue 59) (answers.Spent 2) (notes 7 None false None [] 0) ∷ []

-- the table as they left it
abbrev pub spent_closed : AtClose
spent_closed =
    record {
      clock = 3;
      buckets = record { version = 2; pairs = (0, 57) ∷ [] } ∷ record { version = 2; pairs = (1, 43) ∷ [] } ∷ [];
      queue = (2, 12) ∷ [];
      used = 0 ∷ 1 ∷ 2 ∷ 3 ∷ 4 ∷ [];
    }

abbrev pub spent : Run
spent = record { config = spent_setting; logs = spent_log_0 ∷ spent_log_1 ∷ []; closed = spent_closed }

-- what each seat prints
abbrev pub spent_lines_0 : List Event
spent_lines_0 =
    events.Begin (calls.Put 0 39)
    ∷ events.Give 0 1
    ∷ events.Put 0 1 0 39
    ∷ events.End 13 (answers.Done 1 moves.Still)
    ∷ events.Begin (calls.Remove 0)
    ∷ events.Give 3 2
    ∷ events.Unused 3
    ∷ events.End 26 (answers.Spent 2)
    ∷ events.Begin calls.Dequeue
    ∷ events.Taken 1 62
    ∷ events.Retire 5 1 3
    ∷ events.Back 5
    ∷ events.End 29 (answers.Taken 1 62 (moves.EraSpent 3))
    ∷ events.Begin (calls.Put 0 92)
    ∷ events.End 9 (answers.Spent 2)
    ∷ events.Begin calls.Advance
    ∷ events.End 1 (answers.Clock (moves.EraSpent 3)) ∷ []

abbrev pub spent_lines_1 : List Event
spent_lines_1 =
    events.Begin (calls.Enqueue 62)
    ∷ events.Give 1 1
    ∷ events.Queued 1 62
    ∷ events.End 16 (answers.Queued 1)
    ∷ events.Begin (calls.Put 0 57)
    ∷ events.Give 2 1
    ∷ events.Put 0 2 0 57
    ∷ events.Retire 0 1 1
    ∷ events.End 28 (answers.Done 2 (moves.Moved 2))
    ∷ events.Begin (calls.Put 1 16)
    ∷ events.Give 3 2
    ∷ events.Put 1 1 1 16
    ∷ events.End 13 (answers.Done 1 moves.Still)
    ∷ events.Begin (calls.Enqueue 12)
    ∷ events.Give 4 2
    ∷ events.Queued 2 12
    ∷ events.End 15 (answers.Queued 2)
    ∷ events.Begin (calls.Put 1 43)
    ∷ events.Back 0
    ∷ events.Give 0 3
    ∷ events.Put 1 2 1 43
    ∷ events.Retire 3 2 3
    ∷ events.End 48 (answers.Done 2 (moves.EraSpent 3))
    ∷ events.Begin (calls.Enqueue 59)
    ∷ events.End 7 (answers.Spent 2) ∷ []

abbrev pub SpentWorked : Type 0
SpentWorked = IsWorked spent_items spent spent_scripts (spent_lines_0 ∷ spent_lines_1 ∷ [])
