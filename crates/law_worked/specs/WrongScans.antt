-- Records that a sentence on scans refuses. Each is refused by the laws that are named, and by no other.
use Rattle.std.specs.Prelude.{List, [], ◌∷◌, None, map, ◌≡◌}
use Rattle.wfe_core.specs.defs.declared.call.Answer.TheVariants as answers
use Rattle.wfe_core.specs.defs.declared.call.Call.TheVariants as calls
use Rattle.wfe_core.specs.defs.declared.call.ClockMove.TheVariants as moves
use Rattle.wfe_core.specs.defs.declared.event.Event.TheVariants as events
use Rattle.wfe_core.specs.defs.declared.event.Guard.TheVariants as guards
use Rattle.wfe_core.specs.Guards.{from_to}
use Rattle.model_history.specs.Among.{said}
use Rattle.law_worked.specs.Edited.{Wrong, wrong, named_by, refused_by}
use Rattle.law_worked.specs.Edited.Edit.{Before, Instead, Without, Until}
use Rattle.law_worked.specs.Judges.Law.{Blocks, Reads, Due, Room}
use Rattle.law_worked.specs.Full.{full, full_setting}
use Rattle.law_worked.specs.Kept.{kept, kept_setting}

abbrev pub wrong_scans : List Wrong
wrong_scans =
    -- a guard is left out
    wrong kept_setting.config kept (Without 36 ∷ Until 38 ∷ []) (Blocks ∷ [])
    -- something is told between two guards
    ∷ wrong kept_setting.config kept (Before 37 (said 0 (events.Reserve (guards.Index 0 0) None)) ∷ Until 37 ∷ []) (Blocks ∷ [])
    -- a row stays that nothing read keeps
    ∷ wrong kept_setting.config kept (Without 41 ∷ Instead 42 (said 0 (events.End 6 (answers.Scanned 1 0))) ∷ []) (Blocks ∷ [])
    -- a row goes back that something read keeps
    ∷ wrong kept_setting.config kept (Before 29 (said 1 (events.Begin calls.Release)) ∷ Before 29 (said 1 (events.Clear 2 0)) ∷ Before 29 (said 1 (events.Reserve (guards.Index 1 2) None)) ∷ Before 29 (said 1 (events.End 1 answers.Released)) ∷ Before 29 (said 0 (events.Back 0)) ∷ Until 29 ∷ []) (Blocks ∷ [])
    -- a guard is read otherwise than it publishes
    ∷ wrong kept_setting.config kept (Instead 23 (said 0 (events.Read (guards.Index 0 0) (from_to 1 1))) ∷ []) (Reads ∷ [])
    -- a scan reads its guards twice
    ∷ wrong kept_setting.config kept (Before 42 (said 0 (events.Read (guards.Index 0 0) None)) ∷ Until 42 ∷ []) (Due ∷ [])
    -- a scan that is due is left out
    ∷ wrong kept_setting.config kept (Before 22 (said 1 (events.Begin calls.Advance)) ∷ Before 22 (said 1 (events.Era 2)) ∷ Before 22 (said 1 (events.End 2 (answers.Clock (moves.Moved 2)))) ∷ Without 22 ∷ Without 23 ∷ Without 24 ∷ Without 25 ∷ Without 26 ∷ Without 27 ∷ Without 28 ∷ Instead 29 (said 0 (events.End 20 (answers.Done 2 (moves.Other 2)))) ∷ Until 30 ∷ []) (Due ∷ [])
    -- a get scans
    ∷ wrong kept_setting.config kept (Instead 34 (said 0 (events.Begin (calls.Get 7))) ∷ Until 36 ∷ []) (Due ∷ [])
    -- a put scans once it was given its row, where no scan is due
    ∷ wrong full_setting.config full (Before 19 (said 0 (events.Read (guards.Index 0 0) (from_to 1 1))) ∷ Until 19 ∷ []) (Due ∷ [])
    -- a put scans twice for a row
    ∷ wrong full_setting.config full (Before 51 (said 0 (events.Read (guards.Index 0 0) None)) ∷ Until 51 ∷ []) (Due ∷ [])
    -- a put scans for a row while rows are free
    ∷ wrong kept_setting.config kept (Before 14 (said 0 (events.Read (guards.Index 0 0) (from_to 1 1))) ∷ Until 14 ∷ []) (Room ∷ []) ∷ []

abbrev pub WrongScansRefused : Type 0
WrongScansRefused = map refused_by wrong_scans ≡ map named_by wrong_scans
