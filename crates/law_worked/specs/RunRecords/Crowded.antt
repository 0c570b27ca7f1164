-- Two seats fill a bucket and the table: a put has a row, and finds the bucket full; another finds no free row.
use Rattle.std.specs.Prelude.{List, None, Some, [], false, true, ◌++◌, ◌∷◌}
use Rattle.law_all.specs.inv.model.Locals.{Group}
use Rattle.law_all.specs.inv.model.defs.declared.call.Answer.TheVariants as answers
use Rattle.law_all.specs.inv.model.defs.declared.call.Call.{Call}
use Rattle.law_all.specs.inv.model.defs.declared.call.Call.TheVariants as calls
use Rattle.law_all.specs.inv.model.defs.declared.call.ClockMove.TheVariants as moves
use Rattle.law_all.specs.inv.model.defs.declared.event.Event.{Event}
use Rattle.law_all.specs.inv.model.defs.declared.event.Event.TheVariants as events
use Rattle.law_all.specs.inv.model.words.declared.config.Config.{Config}
use Rattle.law_all.specs.inv.history.Among.{call}
use Rattle.law_all.specs.inv.history.History.{Item, times}
use Rattle.law_all.specs.RunLaw.{AtClose}
use Rattle.law_worked.specs.RunRecords.Runs.{IsWorked, Run, group, life, notes, setting}

abbrev pub crowded_setting : Config
crowded_setting = setting 2 4 1 1 99 99

-- the calls as they begin, and the steps of the seats between; a seat makes none once its call has ended
abbrev pub crowded_items : List Item
crowded_items =
    (call 0 (calls.Put 1 16) ++ times 10 0)
    ++ (call 1 (calls.Hold 1) ++ times 90 1 ++ times 90 0)
    ++ (call 1 (calls.Put 6 19) ++ times 21 1)
    ++ (call 0 (calls.Put 3 40) ++ times 90 0 ++ times 90 1)
    ++ (call 0 calls.Release ++ times 20 0)
    ++ (call 1 (calls.Put 4 92) ++ times 90 1 ++ times 90 0)
    ++ (call 1 (calls.Put 2 84) ++ times 18 1)
    ++ (call 0 (calls.Put 5 30) ++ times 90 0)
    ++ (call 0 (calls.Put 0 67) ++ times 90 0)
    ++ (call 0 (calls.Put 4 65) ++ times 90 0 ++ times 90 1)
    ++ (call 0 (calls.Hold 1) ++ times 90 0)

-- the calls of each seat
abbrev pub crowded_scripts : List (List Call)
crowded_scripts =
    (calls.Put 1 16 ∷ calls.Put 3 40 ∷ calls.Release ∷ calls.Put 5 30 ∷ calls.Put 0 67 ∷ calls.Put 4 65 ∷ calls.Hold 1 ∷ [])
    ∷ (calls.Hold 1 ∷ calls.Put 6 19 ∷ calls.Put 4 92 ∷ calls.Put 2 84 ∷ []) ∷ []

-- each with its answer and its notes
abbrev pub crowded_log_0 : List Group
crowded_log_0 =
    group (calls.Put 1 16) (answers.Done 1 moves.Still) (notes 13 (Some (0, 1)) false None [] 0)
    ∷ group (calls.Put 3 40) (answers.Done 3 (moves.Moved 2)) (notes 36 (Some (2, 1)) false (life 1 1 1) (1 ∷ []) 0)
    ∷ group calls.Release answers.Released (notes 1 None false None [] 0)
    ∷ group (calls.Put 5 30) (answers.Done 5 (moves.Moved 5)) (notes 43 (Some (1, 4)) false (life 3 3 4) [] 0)
    ∷ group (calls.Put 0 67) (answers.Done 6 (moves.Moved 6)) (notes 46 (Some (2, 5)) false (life 1 4 5) [] 0)
    ∷ group (calls.Put 4 65) answers.Full (notes 50 None false None [] 0)
    ∷ group (calls.Hold 1) (answers.Holding 2) (notes 4 None false None [] 0) ∷ []

abbrev pub crowded_log_1 : List Group
crowded_log_1 =
    group (calls.Hold 1) answers.Nothing (notes 5 None false None [] 0)
    ∷ group (calls.Put 6 19) (answers.Done 2 (moves.Moved 3)) (notes 32 (Some (1, 1)) false (life 0 1 2) (0 ∷ []) 0)
    ∷ group (calls.Put 4 92) (answers.Done 4 (moves.Moved 4)) (notes 40 (Some (3, 3)) false (life 2 1 3) (2 ∷ []) 0)
    ∷ group (calls.Put 2 84) (answers.BucketFull 6) (notes 52 (Some (0, 4)) true None [] 0) ∷ []

-- the table as they left it
abbrev pub crowded_closed : AtClose
crowded_closed =
    record {
      clock = 7;
      buckets = record { version = 6; pairs = (1, 16) ∷ (6, 19) ∷ (3, 40) ∷ (4, 92) ∷ (5, 30) ∷ (0, 67) ∷ [] } ∷ [];
      queue = [];
      used = 1 ∷ 2 ∷ 3 ∷ 4 ∷ [];
    }

abbrev pub crowded : Run
crowded = record { config = crowded_setting; logs = crowded_log_0 ∷ crowded_log_1 ∷ []; closed = crowded_closed }

-- what each seat prints
abbrev pub crowded_lines_0 : List Event
crowded_lines_0 =
    events.Begin (calls.Put 1 16)
    ∷ events.Give 0 1
    ∷ events.Put 0 1 1 16
    ∷ events.End 13 (answers.Done 1 moves.Still)
    ∷ events.Begin (calls.Put 3 40)
    ∷ events.Give 2 1
    ∷ events.Put 0 3 3 40
    ∷ events.Retire 1 1 1
    ∷ events.Back 1
    ∷ events.End 36 (answers.Done 3 (moves.Moved 2))
    ∷ events.Begin calls.Release
    ∷ events.End 1 answers.Released
    ∷ events.Begin (calls.Put 5 30)
    ∷ events.Give 1 4
    ∷ events.Put 0 5 5 30
    ∷ events.Retire 3 3 4
    ∷ events.End 43 (answers.Done 5 (moves.Moved 5))
    ∷ events.Begin (calls.Put 0 67)
    ∷ events.Give 2 5
    ∷ events.Put 0 6 0 67
    ∷ events.Retire 1 4 5
    ∷ events.End 46 (answers.Done 6 (moves.Moved 6))
    ∷ events.Begin (calls.Put 4 65)
    ∷ events.End 50 answers.Full
    ∷ events.Begin (calls.Hold 1)
    ∷ events.End 4 (answers.Holding 2) ∷ []

abbrev pub crowded_lines_1 : List Event
crowded_lines_1 =
    events.Begin (calls.Hold 1)
    ∷ events.End 5 answers.Nothing
    ∷ events.Begin (calls.Put 6 19)
    ∷ events.Give 1 1
    ∷ events.Put 0 2 6 19
    ∷ events.Retire 0 1 2
    ∷ events.Back 0
    ∷ events.End 32 (answers.Done 2 (moves.Moved 3))
    ∷ events.Begin (calls.Put 4 92)
    ∷ events.Give 3 3
    ∷ events.Put 0 4 4 92
    ∷ events.Retire 2 1 3
    ∷ events.Back 2
    ∷ events.End 40 (answers.Done 4 (moves.Moved 4))
    ∷ events.Begin (calls.Put 2 84)
    ∷ events.Give 0 4
    ∷ events.Unused 0
    ∷ events.End 52 (answers.BucketFull 6) ∷ []

abbrev pub CrowdedWorked : Type 0
CrowdedWorked = IsWorked crowded_items crowded crowded_scripts (crowded_lines_0 ∷ crowded_lines_1 ∷ [])
