-- Records that a sentence on scans refuses. Each is refused by the laws that are named, and by no other.
use Rattle.std.specs.Prelude.{List, [], ◌∷◌, Some, None, map, ◌≡◌}
use Rattle.wfe_core.specs.defs.declared.call.Answer.TheVariants as answers
use Rattle.wfe_core.specs.defs.declared.call.Call.TheVariants as calls
use Rattle.wfe_core.specs.defs.declared.event.Event.TheVariants as events
use Rattle.wfe_core.specs.defs.declared.event.Guard.TheVariants as guards
use Rattle.model_history.specs.Among.{said}
use Rattle.law_worked.specs.Edited.{Wrong, wrong, named_by, refused_by}
use Rattle.law_worked.specs.Edited.Edit.{Before, Instead, Without, Until}
use Rattle.law_worked.specs.Judges.Law.{Blocks, Reads, Due, Room, Kinds, Named}
use Rattle.law_worked_later.specs.Hazards.Crowded.{crowded, crowded_setting}
use Rattle.law_worked_later.specs.Hazards.Followed.{followed, followed_setting}
use Rattle.law_worked_later.specs.Hazards.Seen.{seen, seen_setting}

abbrev pub wrong_scans : List Wrong
wrong_scans =
    -- a guard is left out
    wrong seen_setting.config seen (Without 20 ∷ Until 22 ∷ []) (Blocks ∷ [])
    -- guards are seen in another order
    ∷ wrong seen_setting.config seen (Instead 20 (said 0 (events.Saw (guards.Index 0 2) None)) ∷ Instead 21 (said 0 (events.Saw (guards.Index 0 1) None)) ∷ Until 22 ∷ []) (Blocks ∷ [])
    -- indexes are seen before seats
    ∷ wrong seen_setting.config seen (Instead 20 (said 0 (events.Saw (guards.Index 1 0) None)) ∷ Until 21 ∷ []) (Blocks ∷ [])
    -- something is told between two guards
    ∷ wrong seen_setting.config seen (Before 20 (said 0 (events.Hazard (guards.Index 0 0) None)) ∷ Until 20 ∷ []) (Blocks ∷ [])
    -- a call ends with a part of a block
    ∷ wrong seen_setting.config seen (Without 21 ∷ Without 22 ∷ Without 23 ∷ Without 24 ∷ Until 26 ∷ []) (Blocks ∷ [])
    -- a row stays that the block did not show
    ∷ wrong seen_setting.config seen (Without 36 ∷ Instead 37 (said 0 (events.End 6 (answers.Scanned 1 0))) ∷ Until 38 ∷ []) (Blocks ∷ [])
    -- a row goes back that the block showed
    ∷ wrong seen_setting.config seen (Before 25 (said 0 (events.Back 0)) ∷ Until 25 ∷ []) (Blocks ∷ [])
    -- a row goes back that the block showed, as another seat has withdrawn it since
    ∷ wrong followed_setting.config followed (Before 44 (said 1 (events.Begin (calls.DropIndex 3))) ∷ Before 44 (said 1 (events.Clear 3 0)) ∷ Before 44 (said 1 (events.Hazard (guards.Index 1 3) None)) ∷ Before 44 (said 1 (events.End 1 answers.Dropped)) ∷ Before 44 (said 0 (events.Back 0)) ∷ Until 44 ∷ []) (Blocks ∷ [])
    -- a row goes back where its seat has not scanned
    ∷ wrong seen_setting.config seen (Before 26 (said 0 (events.Begin (calls.Get 7))) ∷ Before 26 (said 0 (events.Back 0)) ∷ Until 26 ∷ []) (Blocks ∷ [])
    -- a row is seen of a guard that publishes none
    ∷ wrong seen_setting.config seen (Instead 20 (said 0 (events.Saw (guards.Index 0 1) (Some 0))) ∷ Until 21 ∷ []) (Reads ∷ [])
    -- none is seen of a guard that publishes a row
    ∷ wrong seen_setting.config seen (Instead 24 (said 0 (events.Saw (guards.Index 1 2) None)) ∷ Until 25 ∷ []) (Reads ∷ [])
    -- a row is seen that the guard published before
    ∷ wrong seen_setting.config seen (Instead 35 (said 0 (events.Saw (guards.Index 1 2) (Some 0))) ∷ Until 36 ∷ []) (Reads ∷ [])
    -- a row is seen that was withdrawn before, with entries of its seat between
    ∷ wrong seen_setting.config seen (Instead 68 (said 0 (events.Saw (guards.Index 1 2) (Some 1))) ∷ Until 69 ∷ []) (Reads ∷ [])
    -- a helper word is seen
    ∷ wrong seen_setting.config seen (Instead 19 (said 0 (events.Saw (guards.Helper 0) None)) ∷ Until 20 ∷ []) (Blocks ∷ Kinds ∷ Named ∷ [])
    -- a scan sees its guards twice
    ∷ wrong seen_setting.config seen (Before 37 (said 0 (events.Saw (guards.Index 0 0) None)) ∷ Until 37 ∷ []) (Due ∷ [])
    -- a scan that is due is left out
    ∷ wrong seen_setting.config seen (Without 19 ∷ Without 20 ∷ Without 21 ∷ Without 22 ∷ Without 23 ∷ Without 24 ∷ Until 26 ∷ []) (Due ∷ [])
    -- a get scans
    ∷ wrong seen_setting.config seen (Instead 29 (said 0 (events.Begin (calls.Get 7))) ∷ Until 31 ∷ []) (Due ∷ [])
    -- a put scans once it was given its row, where no scan is due
    ∷ wrong crowded_setting.config crowded (Before 15 (said 0 (events.Saw (guards.Index 0 0) (Some 0))) ∷ Until 15 ∷ []) (Due ∷ [])
    -- a put scans twice for a row
    ∷ wrong crowded_setting.config crowded (Before 39 (said 0 (events.Saw (guards.Index 0 0) None)) ∷ Until 39 ∷ []) (Due ∷ [])
    -- a put scans for a row while rows are free
    ∷ wrong followed_setting.config followed (Before 27 (said 0 (events.Saw (guards.Index 0 0) (Some 0))) ∷ Until 27 ∷ []) (Room ∷ []) ∷ []

abbrev pub WrongScansRefused : Type 0
WrongScansRefused = map refused_by wrong_scans ≡ map named_by wrong_scans
