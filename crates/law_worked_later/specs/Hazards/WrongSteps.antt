-- Records that a sentence on steps refuses. Each is refused by the laws that are named, and by no other.
use Rattle.std.specs.Prelude.{List, [], ◌∷◌, Some, None, map, ◌≡◌}
use Rattle.wfe_core.specs.defs.declared.call.Answer.TheVariants as answers
use Rattle.wfe_core.specs.defs.declared.call.Call.TheVariants as calls
use Rattle.wfe_core.specs.defs.declared.call.ClockMove.TheVariants as moves
use Rattle.wfe_core.specs.defs.declared.event.Event.TheVariants as events
use Rattle.wfe_core.specs.defs.declared.event.Guard.TheVariants as guards
use Rattle.model_history.specs.Among.{said}
use Rattle.law_worked.specs.Edited.{Wrong, wrong, named_by, refused_by}
use Rattle.law_worked.specs.Edited.Edit.{Before, Instead, Until}
use Rattle.law_worked.specs.Judges.Law.{Hazards, CallSteps}
use Rattle.law_worked_later.specs.Hazards.Followed.{followed, followed_setting}
use Rattle.law_worked_later.specs.Hazards.PutThenGet.{put_then_get, put_then_get_setting}
use Rattle.law_worked_later.specs.Hazards.Seen.{seen, seen_setting}

abbrev pub wrong_steps : List Wrong
wrong_steps =
    -- a protection counts a step too many
    wrong put_then_get_setting.config put_then_get (Instead 9 (said 0 (events.Held 0 0 4)) ∷ []) (Hazards ∷ [])
    -- a protection counts its two loads alone
    ∷ wrong put_then_get_setting.config put_then_get (Instead 9 (said 0 (events.Held 0 0 2)) ∷ []) (Hazards ∷ [])
    -- a null link that is loaded first takes three steps
    ∷ wrong put_then_get_setting.config put_then_get (Instead 1 (said 0 (events.Null 0 3)) ∷ []) (Hazards ∷ [])
    -- a null link takes none
    ∷ wrong put_then_get_setting.config put_then_get (Instead 1 (said 0 (events.Null 0 0)) ∷ []) (Hazards ∷ [])
    -- a protection counts the last of two rows alone
    ∷ wrong seen_setting.config seen (Instead 27 (said 1 (events.Held 2 1 3)) ∷ []) (Hazards ∷ [])
    -- a row counts that was withdrawn before
    ∷ wrong put_then_get_setting.config put_then_get (Before 8 (said 0 (events.Hazard (guards.Index 0 0) (Some 1))) ∷ Before 8 (said 0 (events.Hazard (guards.Index 0 0) None)) ∷ Instead 9 (said 0 (events.Held 0 0 5)) ∷ []) (Hazards ∷ [])
    -- a row of another index counts
    ∷ wrong put_then_get_setting.config put_then_get (Before 8 (said 0 (events.Hazard (guards.Index 0 1) (Some 0))) ∷ Instead 9 (said 0 (events.Held 0 0 5)) ∷ Until 10 ∷ []) (Hazards ∷ [])
    -- a row is followed in no step more
    ∷ wrong followed_setting.config followed (Instead 65 (said 1 (events.Held 1 2 3)) ∷ []) (Hazards ∷ [])
    -- a row that is followed takes two more
    ∷ wrong followed_setting.config followed (Instead 65 (said 1 (events.Held 1 2 5)) ∷ []) (Hazards ∷ [])
    -- a row is published again in its protection
    ∷ wrong put_then_get_setting.config put_then_get (Before 9 (said 0 (events.Hazard (guards.Index 0 0) (Some 0))) ∷ Instead 9 (said 0 (events.Held 0 0 5)) ∷ []) (Hazards ∷ [])
    -- a row is published again in its protection, and the record ends
    ∷ wrong put_then_get_setting.config put_then_get (Before 9 (said 0 (events.Hazard (guards.Index 0 0) (Some 0))) ∷ Until 9 ∷ []) (Hazards ∷ [])
    -- a row is published again in its protection, with another seat between
    ∷ wrong seen_setting.config seen (Before 26 (said 0 (events.Begin (calls.Get 7))) ∷ Before 26 (said 0 (events.Hazard (guards.Index 0 0) (Some 1))) ∷ Before 26 (said 1 (events.Hazard (guards.Index 1 2) (Some 0))) ∷ Until 26 ∷ []) (Hazards ∷ [])
    -- a release takes two steps
    ∷ wrong seen_setting.config seen (Instead 58 (said 1 (events.End 2 answers.Released)) ∷ []) (CallSteps ∷ [])
    -- a drop takes two steps
    ∷ wrong followed_setting.config followed (Instead 50 (said 1 (events.End 2 answers.Dropped)) ∷ []) (CallSteps ∷ [])
    -- a copy takes one step
    ∷ wrong followed_setting.config followed (Instead 14 (said 1 (events.End 1 (answers.Copied 0))) ∷ []) (CallSteps ∷ [])
    -- a look takes too many steps
    ∷ wrong followed_setting.config followed (Instead 46 (said 1 (events.End 18 (answers.Looked 0 1 (Some 70)))) ∷ []) (CallSteps ∷ [])
    -- a scan takes a step too many
    ∷ wrong seen_setting.config seen (Instead 37 (said 0 (events.End 8 (answers.Scanned 0 1))) ∷ []) (CallSteps ∷ [])
    -- an advance takes three steps
    ∷ wrong seen_setting.config seen (Instead 61 (said 1 (events.End 3 (answers.Clock (moves.Moved 2)))) ∷ []) (CallSteps ∷ []) ∷ []

abbrev pub WrongStepsRefused : Type 0
WrongStepsRefused = map refused_by wrong_steps ≡ map named_by wrong_steps
