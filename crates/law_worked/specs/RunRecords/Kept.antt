-- A seat holds two versions of a bucket at once, copies them to higher indexes and looks at them, while the other seat changes the bucket by puts that
-- name the version at which alone they are done; a put is stale, and one finds the last version told. A hold finds nothing, and so do a copy and
-- looks at indexes where nothing is kept.
use Rattle.std.specs.Prelude.{List, None, Some, [], false, ◌++◌, ◌∷◌}
use Rattle.law_all.specs.inv.model.Locals.{Group}
use Rattle.law_all.specs.inv.model.defs.declared.call.Answer.TheVariants as answers
use Rattle.law_all.specs.inv.model.defs.declared.call.Call.{Call}
use Rattle.law_all.specs.inv.model.defs.declared.call.Call.TheVariants as calls
use Rattle.law_all.specs.inv.model.defs.declared.call.ClockMove.TheVariants as moves
use Rattle.law_all.specs.inv.model.defs.declared.event.Event.{Event}
use Rattle.law_all.specs.inv.model.defs.declared.event.Event.TheVariants as events
use Rattle.law_all.specs.inv.model.words.declared.config.Config.{Config}
use Rattle.law_all.specs.inv.history.Among.{call}
use Rattle.law_all.specs.inv.history.History.{Item, times}
use Rattle.law_all.specs.RunLaw.{AtClose, no_bucket}
use Rattle.law_worked.specs.RunRecords.Runs.{IsWorked, Run, group, life, notes, setting}

-- with five indexes, and fourteen pairs in a row
abbrev pub kept_setting : Config
kept_setting = record (setting 2 5 2 2 9 3) { indexes = 5; pairs = 14 }

-- the calls as they begin, and the steps of the seats between; a seat makes none once its call has ended
abbrev pub kept_items : List Item
kept_items =
    (call 0 (calls.Put 0 10) ++ times 90 0)
    ++ (call 1 (calls.Get 0) ++ times 90 1)
    ++ (call 1 (calls.Hold 0) ++ times 90 1)
    ++ (call 1 (calls.Copy 2 3) ++ times 1 1)
    ++ (call 0 (calls.PutIf 0 11 1) ++ times 7 0 ++ times 90 1)
    ++ (call 1 (calls.Look 3 0) ++ times 2 1 ++ times 90 0 ++ times 90 1)
    ++ (call 1 (calls.PutIf 0 77 1) ++ times 90 1)
    ++ (call 1 (calls.Hold 0) ++ times 90 1)
    ++ (call 1 (calls.Look 2 0) ++ times 90 1)
    ++ (call 1 (calls.Look 3 2) ++ times 90 1)
    ++ (call 1 (calls.Copy 2 4) ++ times 90 1)
    ++ (call 1 calls.Release ++ times 90 1)
    ++ (call 0 (calls.PutIf 2 12 2) ++ times 90 0)
    ++ (call 1 (calls.DropIndex 3) ++ times 90 1)
    ++ (call 1 (calls.Look 3 0) ++ times 90 1)
    ++ (call 1 (calls.Copy 3 4) ++ times 90 1)
    ++ (call 1 (calls.Look 4 0) ++ times 90 1)
    ++ (call 0 calls.Scan ++ times 90 0)
    ++ (call 1 (calls.Hold 1) ++ times 90 1)
    ++ (call 1 (calls.Look 2 1) ++ times 90 1)
    ++ (call 1 (calls.DropIndex 4) ++ times 90 1)
    ++ (call 0 (calls.PutIf 0 13 3) ++ times 90 0)
    ++ (call 0 calls.Scan ++ times 90 0)
    ++ (call 1 (calls.Get 2) ++ times 90 1)

-- the calls of each seat
abbrev pub kept_scripts : List (List Call)
kept_scripts =
    (calls.Put 0 10 ∷ calls.PutIf 0 11 1 ∷ calls.PutIf 2 12 2 ∷ calls.Scan ∷ calls.PutIf 0 13 3 ∷ calls.Scan ∷ [])
    ∷ (calls.Get 0
    ∷ calls.Hold 0
    ∷ calls.Copy 2 3
    ∷ calls.Look 3 0
    ∷ calls.PutIf 0 77 1
    ∷ calls.Hold 0
    ∷ calls.Look 2 0
    ∷ calls.Look 3 2
    ∷ calls.Copy 2 4
    ∷ calls.Release
    ∷ calls.DropIndex 3
    ∷ calls.Look 3 0
    ∷ calls.Copy 3 4
    ∷ calls.Look 4 0
    ∷ calls.Hold 1
    ∷ calls.Look 2 1
    ∷ calls.DropIndex 4
    ∷ calls.Get 2 ∷ [])
    ∷ []

-- each with its answer and its notes
abbrev pub kept_log_0 : List Group
kept_log_0 =
    group (calls.Put 0 10) (answers.Done 1 moves.Still) (notes 13 (Some (0, 1)) false None [] 0)
    ∷ group (calls.PutIf 0 11 1) (answers.Done 2 moves.Still) (notes 20 (Some (1, 1)) false (life 0 1 1) [] 0)
    ∷ group (calls.PutIf 2 12 2) (answers.Done 3 (moves.Moved 2)) (notes 34 (Some (2, 1)) false (life 1 1 1) [] 0)
    ∷ group calls.Scan (answers.Scanned 2 0) (notes 10 None false None [] 0)
    ∷ group (calls.PutIf 0 13 3) (answers.Spent 3) (notes 11 None false None [] 0)
    ∷ group calls.Scan (answers.Scanned 0 2) (notes 12 None false None (0 ∷ 1 ∷ []) 0) ∷ []

abbrev pub kept_log_1 : List Group
kept_log_1 =
    group (calls.Get 0) (answers.Got 1 (Some 10)) (notes 9 None false None [] 0)
    ∷ group (calls.Hold 0) (answers.Holding 0) (notes 4 None false None [] 0)
    ∷ group (calls.Copy 2 3) (answers.Copied 0) (notes 2 None false None [] 0)
    ∷ group (calls.Look 3 0) (answers.Looked 0 1 (Some 10)) (notes 4 None false None [] 0)
    ∷ group (calls.PutIf 0 77 1) (answers.Stale 2) (notes 9 None false None [] 0)
    ∷ group (calls.Hold 0) (answers.Holding 1) (notes 5 None false None [] 0)
    ∷ group (calls.Look 2 0) (answers.Looked 1 2 (Some 11)) (notes 4 None false None [] 0)
    ∷ group (calls.Look 3 2) (answers.Looked 0 1 None) (notes 3 None false None [] 0)
    ∷ group (calls.Copy 2 4) (answers.Copied 1) (notes 2 None false None [] 0)
    ∷ group calls.Release answers.Released (notes 1 None false None [] 0)
    ∷ group (calls.DropIndex 3) answers.Dropped (notes 1 None false None [] 0)
    ∷ group (calls.Look 3 0) answers.Nothing (notes 1 None false None [] 0)
    ∷ group (calls.Copy 3 4) answers.Nothing (notes 1 None false None [] 0)
    ∷ group (calls.Look 4 0) (answers.Looked 1 2 (Some 11)) (notes 4 None false None [] 0)
    ∷ group (calls.Hold 1) answers.Nothing (notes 5 None false None [] 0)
    ∷ group (calls.Look 2 1) answers.Nothing (notes 1 None false None [] 0)
    ∷ group (calls.DropIndex 4) answers.Dropped (notes 1 None false None [] 0)
    ∷ group (calls.Get 2) (answers.Got 3 (Some 12)) (notes 10 None false None [] 0) ∷ []

-- the table as they left it
abbrev pub kept_closed : AtClose
kept_closed =
    record {
      clock = 2;
      buckets = record { version = 3; pairs = (0, 11) ∷ (2, 12) ∷ [] } ∷ no_bucket ∷ [];
      queue = [];
      used = 2 ∷ 5 ∷ [];
    }

abbrev pub kept : Run
kept = record { config = kept_setting; logs = kept_log_0 ∷ kept_log_1 ∷ []; closed = kept_closed }

-- what each seat prints
abbrev pub kept_lines_0 : List Event
kept_lines_0 =
    events.Begin (calls.Put 0 10)
    ∷ events.Give 0 1
    ∷ events.Put 0 1 0 10
    ∷ events.End 13 (answers.Done 1 moves.Still)
    ∷ events.Begin (calls.PutIf 0 11 1)
    ∷ events.Give 1 1
    ∷ events.Put 0 2 0 11
    ∷ events.Retire 0 1 1
    ∷ events.End 20 (answers.Done 2 moves.Still)
    ∷ events.Begin (calls.PutIf 2 12 2)
    ∷ events.Give 2 1
    ∷ events.Put 0 3 2 12
    ∷ events.Retire 1 1 1
    ∷ events.End 34 (answers.Done 3 (moves.Moved 2))
    ∷ events.Begin calls.Scan
    ∷ events.End 10 (answers.Scanned 2 0)
    ∷ events.Begin (calls.PutIf 0 13 3)
    ∷ events.End 11 (answers.Spent 3)
    ∷ events.Begin calls.Scan
    ∷ events.Back 0
    ∷ events.Back 1
    ∷ events.End 12 (answers.Scanned 0 2) ∷ []

abbrev pub kept_lines_1 : List Event
kept_lines_1 =
    events.Begin (calls.Get 0)
    ∷ events.Got 0 1 0 (Some 10)
    ∷ events.End 9 (answers.Got 1 (Some 10))
    ∷ events.Begin (calls.Hold 0)
    ∷ events.End 4 (answers.Holding 0)
    ∷ events.Begin (calls.Copy 2 3)
    ∷ events.End 2 (answers.Copied 0)
    ∷ events.Begin (calls.Look 3 0)
    ∷ events.End 4 (answers.Looked 0 1 (Some 10))
    ∷ events.Begin (calls.PutIf 0 77 1)
    ∷ events.End 9 (answers.Stale 2)
    ∷ events.Begin (calls.Hold 0)
    ∷ events.End 5 (answers.Holding 1)
    ∷ events.Begin (calls.Look 2 0)
    ∷ events.End 4 (answers.Looked 1 2 (Some 11))
    ∷ events.Begin (calls.Look 3 2)
    ∷ events.End 3 (answers.Looked 0 1 None)
    ∷ events.Begin (calls.Copy 2 4)
    ∷ events.End 2 (answers.Copied 1)
    ∷ events.Begin calls.Release
    ∷ events.End 1 answers.Released
    ∷ events.Begin (calls.DropIndex 3)
    ∷ events.End 1 answers.Dropped
    ∷ events.Begin (calls.Look 3 0)
    ∷ events.End 1 answers.Nothing
    ∷ events.Begin (calls.Copy 3 4)
    ∷ events.End 1 answers.Nothing
    ∷ events.Begin (calls.Look 4 0)
    ∷ events.End 4 (answers.Looked 1 2 (Some 11))
    ∷ events.Begin (calls.Hold 1)
    ∷ events.End 5 answers.Nothing
    ∷ events.Begin (calls.Look 2 1)
    ∷ events.End 1 answers.Nothing
    ∷ events.Begin (calls.DropIndex 4)
    ∷ events.End 1 answers.Dropped
    ∷ events.Begin (calls.Get 2)
    ∷ events.Got 0 3 2 (Some 12)
    ∷ events.End 10 (answers.Got 3 (Some 12)) ∷ []

abbrev pub KeptWorked : Type 0
KeptWorked = IsWorked kept_items kept kept_scripts (kept_lines_0 ∷ kept_lines_1 ∷ [])
