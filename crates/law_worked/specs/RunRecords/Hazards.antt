-- Under hazard pointers a bucket is changed between the two loads of a hold, which then finds the later row. Scans keep that row while it
-- stands, also where it was copied to, and no other one; the queue's rows go the same way. Changes leave the clock alone, and an advance
-- moves it.
use Rattle.std.specs.Prelude.{List, None, Some, [], false, ◌++◌, ◌∷◌}
use Rattle.law_all.specs.inv.model.Locals.{Group}
use Rattle.law_all.specs.inv.model.defs.declared.call.Answer.TheVariants as answers
use Rattle.law_all.specs.inv.model.defs.declared.call.Call.{Call}
use Rattle.law_all.specs.inv.model.defs.declared.call.Call.TheVariants as calls
use Rattle.law_all.specs.inv.model.defs.declared.call.ClockMove.TheVariants as moves
use Rattle.law_all.specs.inv.model.defs.declared.event.Event.{Event}
use Rattle.law_all.specs.inv.model.defs.declared.event.Event.TheVariants as events
use Rattle.law_all.specs.inv.model.words.declared.config.Config.{Config}
use Rattle.law_all.specs.inv.model.words.declared.config.SchemeKind.TheVariants.{Hp}
use Rattle.law_all.specs.inv.history.Among.{call}
use Rattle.law_all.specs.inv.history.History.{Item, times}
use Rattle.law_all.specs.RunLaw.{AtClose}
use Rattle.law_worked.specs.RunRecords.Runs.{IsWorked, Run, group, life, notes, setting}

-- under hazard pointers, with four indexes; each retirement would move a clock that retirements move
abbrev pub hazards_setting : Config
hazards_setting = record (setting 2 5 1 1 9 9) { scheme = Hp; indexes = 4 }

-- the calls as they begin, and the steps of the seats between; a seat makes none once its call has ended
abbrev pub hazards_items : List Item
hazards_items =
    (call 0 (calls.Put 7 0) ++ times 90 0)
    ++ (call 1 (calls.Hold 7) ++ times 2 1)
    ++ (call 0 (calls.Put 7 1) ++ times 90 0 ++ times 90 1)
    ++ (call 0 (calls.Put 7 2) ++ times 90 0)
    ++ (call 1 (calls.Copy 2 3) ++ times 90 1)
    ++ (call 1 calls.Release ++ times 90 1)
    ++ (call 0 (calls.Enqueue 5) ++ times 90 0)
    ++ (call 1 calls.Dequeue ++ times 90 1)
    ++ (call 0 calls.Scan ++ times 90 0)
    ++ (call 1 (calls.Get 7) ++ times 90 1)
    ++ (call 1 (calls.DropIndex 3) ++ times 90 1)
    ++ (call 0 calls.Scan ++ times 90 0)
    ++ (call 0 calls.Advance ++ times 90 0)

-- the calls of each seat
abbrev pub hazards_scripts : List (List Call)
hazards_scripts =
    (calls.Put 7 0 ∷ calls.Put 7 1 ∷ calls.Put 7 2 ∷ calls.Enqueue 5 ∷ calls.Scan ∷ calls.Scan ∷ calls.Advance ∷ [])
    ∷ (calls.Hold 7 ∷ calls.Copy 2 3 ∷ calls.Release ∷ calls.Dequeue ∷ calls.Get 7 ∷ calls.DropIndex 3 ∷ []) ∷ []

-- each with its answer and its notes
abbrev pub hazards_log_0 : List Group
hazards_log_0 =
    group (calls.Put 7 0) (answers.Done 1 moves.Still) (notes 10 (Some (0, 1)) false None [] 0)
    ∷ group (calls.Put 7 1) (answers.Done 2 moves.Still) (notes 27 (Some (1, 1)) false (life 0 1 1) [] 0)
    ∷ group (calls.Put 7 2) (answers.Done 3 moves.Still) (notes 28 (Some (2, 1)) false (life 1 1 1) (0 ∷ []) 0)
    ∷ group (calls.Enqueue 5) (answers.Queued 1) (notes 14 (Some (3, 1)) false None [] 0)
    ∷ group calls.Scan (answers.Scanned 1 0) (notes 8 None false None [] 0)
    ∷ group calls.Scan (answers.Scanned 0 1) (notes 9 None false None (1 ∷ []) 0)
    ∷ group calls.Advance (answers.Clock (moves.Moved 2)) (notes 2 None false None [] 0) ∷ []

abbrev pub hazards_log_1 : List Group
hazards_log_1 =
    group (calls.Hold 7) (answers.Holding 1) (notes 5 None false None [] 0)
    ∷ group (calls.Copy 2 3) (answers.Copied 1) (notes 2 None false None [] 0)
    ∷ group calls.Release answers.Released (notes 1 None false None [] 0)
    ∷ group calls.Dequeue (answers.Taken 1 5 moves.Still) (notes 25 None false (life 5 1 1) (5 ∷ []) 0)
    ∷ group (calls.Get 7) (answers.Got 3 (Some 2)) (notes 8 None false None [] 0)
    ∷ group (calls.DropIndex 3) answers.Dropped (notes 1 None false None [] 0) ∷ []

-- the table as they left it
abbrev pub hazards_closed : AtClose
hazards_closed = record { clock = 2; buckets = record { version = 3; pairs = (7, 2) ∷ [] } ∷ []; queue = []; used = 2 ∷ 3 ∷ [] }

abbrev pub hazards : Run
hazards = record { config = hazards_setting; logs = hazards_log_0 ∷ hazards_log_1 ∷ []; closed = hazards_closed }

-- what each seat prints
abbrev pub hazards_lines_0 : List Event
hazards_lines_0 =
    events.Begin (calls.Put 7 0)
    ∷ events.Give 0 1
    ∷ events.Put 0 1 7 0
    ∷ events.End 10 (answers.Done 1 moves.Still)
    ∷ events.Begin (calls.Put 7 1)
    ∷ events.Give 1 1
    ∷ events.Put 0 2 7 1
    ∷ events.Retire 0 1 1
    ∷ events.End 27 (answers.Done 2 moves.Still)
    ∷ events.Begin (calls.Put 7 2)
    ∷ events.Give 2 1
    ∷ events.Put 0 3 7 2
    ∷ events.Retire 1 1 1
    ∷ events.Back 0
    ∷ events.End 28 (answers.Done 3 moves.Still)
    ∷ events.Begin (calls.Enqueue 5)
    ∷ events.Give 3 1
    ∷ events.Queued 1 5
    ∷ events.End 14 (answers.Queued 1)
    ∷ events.Begin calls.Scan
    ∷ events.End 8 (answers.Scanned 1 0)
    ∷ events.Begin calls.Scan
    ∷ events.Back 1
    ∷ events.End 9 (answers.Scanned 0 1)
    ∷ events.Begin calls.Advance
    ∷ events.End 2 (answers.Clock (moves.Moved 2)) ∷ []

abbrev pub hazards_lines_1 : List Event
hazards_lines_1 =
    events.Begin (calls.Hold 7)
    ∷ events.End 5 (answers.Holding 1)
    ∷ events.Begin (calls.Copy 2 3)
    ∷ events.End 2 (answers.Copied 1)
    ∷ events.Begin calls.Release
    ∷ events.End 1 answers.Released
    ∷ events.Begin calls.Dequeue
    ∷ events.Taken 1 5
    ∷ events.Retire 5 1 1
    ∷ events.Back 5
    ∷ events.End 25 (answers.Taken 1 5 moves.Still)
    ∷ events.Begin (calls.Get 7)
    ∷ events.Got 0 3 7 (Some 2)
    ∷ events.End 8 (answers.Got 3 (Some 2))
    ∷ events.Begin (calls.DropIndex 3)
    ∷ events.End 1 answers.Dropped ∷ []

abbrev pub HazardsWorked : Type 0
HazardsWorked = IsWorked hazards_items hazards hazards_scripts (hazards_lines_0 ∷ hazards_lines_1 ∷ [])
