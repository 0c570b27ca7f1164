-- Records that a sentence on the map or on the queue refuses. Each is refused by the laws that are named, and by no other.
use Rattle.std.specs.Prelude.{List, [], ◌∷◌, None, Some, map, ◌≡◌}
use Rattle.wfe_core.specs.defs.declared.call.Answer.TheVariants as answers
use Rattle.wfe_core.specs.defs.declared.call.Call.TheVariants as calls
use Rattle.wfe_core.specs.defs.declared.call.ClockMove.TheVariants as moves
use Rattle.wfe_core.specs.defs.declared.event.Event.TheVariants as events
use Rattle.wfe_core.specs.defs.declared.event.Guard.TheVariants as guards
use Rattle.wfe_core.specs.Guards.{from_to}
use Rattle.model_history.specs.Among.{said}
use Rattle.law_worked.specs.Edited.{Wrong, wrong, named_by, refused_by}
use Rattle.law_worked.specs.Edited.Edit.{Before, Instead, Until}
use Rattle.law_worked.specs.Judges.Law.{Behind, Map, Values, Emptied}
use Rattle.law_worked.specs.Full.{full, full_setting}
use Rattle.law_worked.specs.Kept.{kept, kept_setting}
use Rattle.law_worked.specs.PutThenGet.{put_then_get, put_then_get_setting}
use Rattle.law_worked.specs.Queued.{queued, queued_setting}

abbrev pub wrong_values : List Wrong
wrong_values =
    -- a change has another version than the next
    wrong kept_setting.config kept (Instead 18 (said 0 (events.Put 0 3 7 71)) ∷ Until 19 ∷ []) (Map ∷ [])
    -- a get tells another value than its key has
    ∷ wrong put_then_get_setting.config put_then_get (Instead 11 (said 0 (events.Got 0 1 7 (Some 71))) ∷ Instead 14 (said 0 (events.End 9 (answers.Got 1 (Some 71)))) ∷ []) (Map ∷ [])
    -- a get tells a version that was over when it began
    ∷ wrong full_setting.config full (Before 61 (said 0 (events.Begin (calls.Get 7))) ∷ Before 61 (said 0 (events.Reserve (guards.Index 0 0) (from_to 3 3))) ∷ Before 61 (said 0 (events.Held 0 0 4)) ∷ Before 61 (said 0 (events.Got 0 1 7 (Some 70))) ∷ []) (Map ∷ [])
    -- a value is queued under another number than the next
    ∷ wrong queued_setting.config queued (Instead 15 (said 0 (events.Queued 3 6)) ∷ Until 16 ∷ []) (Values ∷ [])
    -- a value is taken that was not queued under its number
    ∷ wrong queued_setting.config queued (Instead 27 (said 0 (events.Taken 1 6)) ∷ Instead 33 (said 0 (events.End 18 (answers.Taken 1 6 moves.Still))) ∷ []) (Values ∷ [])
    -- a dequeue answers that a queue is empty that never was
    ∷ wrong queued_setting.config queued (Instead 24 (said 0 (events.Null 1 4)) ∷ Instead 25 (said 0 (events.Reserve (guards.Index 0 1) None)) ∷ Instead 26 (said 0 (events.Clear 0 8)) ∷ Instead 27 (said 0 (events.Reserve (guards.Index 0 0) None)) ∷ Instead 28 (said 0 (events.End 11 answers.Empty)) ∷ Until 29 ∷ []) (Behind ∷ Emptied ∷ []) ∷ []

abbrev pub WrongValuesRefused : Type 0
WrongValuesRefused = map refused_by wrong_values ≡ map named_by wrong_values
