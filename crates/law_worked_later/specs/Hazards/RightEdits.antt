-- Worked records, changed at a few lines, that each law takes.
use Rattle.std.specs.Prelude.{List, [], ◌∷◌, Some, None, map, ◌≡◌}
use Rattle.wfe_core.specs.defs.declared.call.Answer.TheVariants as answers
use Rattle.wfe_core.specs.defs.declared.call.Call.TheVariants as calls
use Rattle.wfe_core.specs.defs.declared.call.ClockMove.TheVariants as moves
use Rattle.wfe_core.specs.defs.declared.event.Event.TheVariants as events
use Rattle.wfe_core.specs.defs.declared.event.Guard.TheVariants as guards
use Rattle.model_history.specs.Among.{said}
use Rattle.law_worked.specs.Edited.{Wrong, wrong, named_by, refused_by}
use Rattle.law_worked.specs.Edited.Edit.{Before, Instead, Until}
use Rattle.law_worked_later.specs.Hazards.PutThenGet.{put_then_get, put_then_get_setting}
use Rattle.law_worked_later.specs.Hazards.Seen.{seen, seen_setting}

abbrev pub right_edits : List Wrong
right_edits =
    -- another seat tells entries between two guards of a block
    wrong seen_setting.config seen (Before 31 (said 1 (events.Begin calls.Advance)) ∷ Before 31 (said 1 (events.Era 2)) ∷ Before 31 (said 1 (events.End 2 (answers.Clock (moves.Moved 2)))) ∷ Until 38 ∷ []) []
    -- a protection publishes two rows by turns
    ∷ wrong seen_setting.config seen (Before 26 (said 1 (events.Hazard (guards.Index 1 2) (Some 1))) ∷ Before 26 (said 1 (events.Hazard (guards.Index 1 2) (Some 0))) ∷ Instead 27 (said 1 (events.Held 2 1 9)) ∷ Until 28 ∷ []) []
    -- a protection finds its link null once it has published a row
    ∷ wrong put_then_get_setting.config put_then_get (Before 1 (said 0 (events.Hazard (guards.Index 0 0) (Some 2))) ∷ Instead 1 (said 0 (events.Null 0 3)) ∷ []) []
    -- a row is published again after it was withdrawn
    ∷ wrong put_then_get_setting.config put_then_get (Before 9 (said 0 (events.Hazard (guards.Index 0 0) None)) ∷ Before 9 (said 0 (events.Hazard (guards.Index 0 0) (Some 0))) ∷ []) []
    -- a record ends in a protection
    ∷ wrong seen_setting.config seen (Until 9 ∷ []) []
    -- a record ends in a block
    ∷ wrong seen_setting.config seen (Until 20 ∷ []) []
    -- a row that was retired stands while its word publishes it
    ∷ wrong seen_setting.config seen (Instead 26 (said 1 (events.Held 2 0 3)) ∷ Until 27 ∷ []) [] ∷ []

abbrev pub RightEditsTaken : Type 0
RightEditsTaken = map refused_by right_edits ≡ map named_by right_edits
