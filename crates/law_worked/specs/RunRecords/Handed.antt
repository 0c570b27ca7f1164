-- A seat leaves while another holds the row that it has retired. A third seat, which came for its list too early, takes it over, keeps the row in a
-- scan and leaves too; the holder finds the first list taken over, takes the second over, lets go of the row and gives it back.
use Rattle.std.specs.Prelude.{List, None, Some, [], false, ◌++◌, ◌∷◌}
use Rattle.law_all.specs.inv.model.Locals.{Group}
use Rattle.law_all.specs.inv.model.defs.declared.call.Answer.TheVariants as answers
use Rattle.law_all.specs.inv.model.defs.declared.call.Call.{Call}
use Rattle.law_all.specs.inv.model.defs.declared.call.Call.TheVariants as calls
use Rattle.law_all.specs.inv.model.defs.declared.call.ClockMove.TheVariants as moves
use Rattle.law_all.specs.inv.model.defs.declared.event.Event.{Event}
use Rattle.law_all.specs.inv.model.defs.declared.event.Event.TheVariants as events
use Rattle.law_all.specs.inv.model.words.declared.config.Config.{Config}
use Rattle.law_all.specs.inv.history.Among.{call}
use Rattle.law_all.specs.inv.history.History.{Item, times}
use Rattle.law_all.specs.RunLaw.{AtClose}
use Rattle.law_worked.specs.RunRecords.Runs.{IsWorked, Run, group, life, notes, setting}

abbrev pub handed_setting : Config
handed_setting = setting 3 5 1 9 9 9

-- the calls as they begin, and the steps of the seats between; a seat makes none once its call has ended
abbrev pub handed_items : List Item
handed_items =
    (call 1 (calls.Adopt 0) ++ times 90 1)
    ++ (call 0 (calls.Put 0 10) ++ times 90 0)
    ++ (call 2 (calls.Hold 0) ++ times 90 2)
    ++ (call 0 (calls.Put 0 20) ++ times 90 0)
    ++ (call 0 calls.Leave ++ times 90 0)
    ++ (call 1 (calls.Adopt 0) ++ times 90 1)
    ++ (call 1 calls.Scan ++ times 90 1)
    ++ (call 1 calls.Leave ++ times 90 1)
    ++ (call 2 (calls.Adopt 0) ++ times 90 2)
    ++ (call 2 (calls.Adopt 1) ++ times 90 2)
    ++ (call 2 calls.Release ++ times 90 2)
    ++ (call 2 calls.Scan ++ times 90 2)

-- the calls of each seat
abbrev pub handed_scripts : List (List Call)
handed_scripts =
    (calls.Put 0 10 ∷ calls.Put 0 20 ∷ calls.Leave ∷ [])
    ∷ (calls.Adopt 0 ∷ calls.Adopt 0 ∷ calls.Scan ∷ calls.Leave ∷ [])
    ∷ (calls.Hold 0 ∷ calls.Adopt 0 ∷ calls.Adopt 1 ∷ calls.Release ∷ calls.Scan ∷ [])
    ∷ []

-- each with its answer and its notes
abbrev pub handed_log_0 : List Group
handed_log_0 =
    group (calls.Put 0 10) (answers.Done 1 moves.Still) (notes 13 (Some (0, 1)) false None [] 0)
    ∷ group (calls.Put 0 20) (answers.Done 2 moves.Still) (notes 20 (Some (1, 1)) false (life 0 1 1) [] 0)
    ∷ group calls.Leave (answers.Left 1) (notes 1 None false None [] 0) ∷ []

abbrev pub handed_log_1 : List Group
handed_log_1 =
    group (calls.Adopt 0) answers.NotLeft (notes 1 None false None [] 0)
    ∷ group (calls.Adopt 0) (answers.Adopted 1) (notes 2 None false None [] 0)
    ∷ group calls.Scan (answers.Scanned 1 0) (notes 9 None false None [] 0)
    ∷ group calls.Leave (answers.Left 1) (notes 1 None false None [] 0) ∷ []

abbrev pub handed_log_2 : List Group
handed_log_2 =
    group (calls.Hold 0) (answers.Holding 0) (notes 4 None false None [] 0)
    ∷ group (calls.Adopt 0) answers.AdoptedBefore (notes 1 None false None [] 0)
    ∷ group (calls.Adopt 1) (answers.Adopted 1) (notes 2 None false None [] 0)
    ∷ group calls.Release answers.Released (notes 1 None false None [] 0)
    ∷ group calls.Scan (answers.Scanned 0 1) (notes 10 None false None (0 ∷ []) 0) ∷ []

-- the table as they left it
abbrev pub handed_closed : AtClose
handed_closed = record { clock = 1; buckets = record { version = 2; pairs = (0, 20) ∷ [] } ∷ []; queue = []; used = 1 ∷ 5 ∷ [] }

abbrev pub handed : Run
handed = record { config = handed_setting; logs = handed_log_0 ∷ handed_log_1 ∷ handed_log_2 ∷ []; closed = handed_closed }

-- what each seat prints
abbrev pub handed_lines_0 : List Event
handed_lines_0 =
    events.Begin (calls.Put 0 10)
    ∷ events.Give 0 1
    ∷ events.Put 0 1 0 10
    ∷ events.End 13 (answers.Done 1 moves.Still)
    ∷ events.Begin (calls.Put 0 20)
    ∷ events.Give 1 1
    ∷ events.Put 0 2 0 20
    ∷ events.Retire 0 1 1
    ∷ events.End 20 (answers.Done 2 moves.Still)
    ∷ events.Begin calls.Leave
    ∷ events.Left 1
    ∷ events.End 1 (answers.Left 1) ∷ []

abbrev pub handed_lines_1 : List Event
handed_lines_1 =
    events.Begin (calls.Adopt 0)
    ∷ events.End 1 answers.NotLeft
    ∷ events.Begin (calls.Adopt 0)
    ∷ events.Adopted 0 1
    ∷ events.End 2 (answers.Adopted 1)
    ∷ events.Begin calls.Scan
    ∷ events.End 9 (answers.Scanned 1 0)
    ∷ events.Begin calls.Leave
    ∷ events.Left 1
    ∷ events.End 1 (answers.Left 1) ∷ []

abbrev pub handed_lines_2 : List Event
handed_lines_2 =
    events.Begin (calls.Hold 0)
    ∷ events.End 4 (answers.Holding 0)
    ∷ events.Begin (calls.Adopt 0)
    ∷ events.End 1 answers.AdoptedBefore
    ∷ events.Begin (calls.Adopt 1)
    ∷ events.Adopted 1 1
    ∷ events.End 2 (answers.Adopted 1)
    ∷ events.Begin calls.Release
    ∷ events.End 1 answers.Released
    ∷ events.Begin calls.Scan
    ∷ events.Back 0
    ∷ events.End 10 (answers.Scanned 0 1) ∷ []

abbrev pub HandedWorked : Type 0
HandedWorked = IsWorked handed_items handed handed_scripts (handed_lines_0 ∷ handed_lines_1 ∷ handed_lines_2 ∷ [])
