-- Records that a sentence on steps refuses. Each is refused by the laws that are named, and by no other.
use Rattle.std.specs.Prelude.{List, [], ◌∷◌, None, map, ◌≡◌}
use Rattle.wfe_core.specs.defs.declared.call.Answer.TheVariants as answers
use Rattle.wfe_core.specs.defs.declared.call.Call.TheVariants as calls
use Rattle.wfe_core.specs.defs.declared.call.ClockMove.TheVariants as moves
use Rattle.wfe_core.specs.defs.declared.event.Event.TheVariants as events
use Rattle.wfe_core.specs.defs.declared.event.Guard.TheVariants as guards
use Rattle.wfe_core.specs.Guards.{from_to}
use Rattle.model_history.specs.Among.{said}
use Rattle.law_worked.specs.Edited.{Wrong, wrong, named_by, refused_by}
use Rattle.law_worked.specs.Edited.Edit.{Before, Instead, Without, Until}
use Rattle.law_worked.specs.Judges.Law.{Steps, Withdrawals, Tries, Raises, Asks, CallSteps, Named}
use Rattle.law_worked.specs.Full.{full, full_setting}
use Rattle.law_worked.specs.Helped.{helped, helped_setting}
use Rattle.law_worked.specs.Intervals.{intervals, intervals_setting}
use Rattle.law_worked.specs.Kept.{kept, kept_setting}
use Rattle.law_worked.specs.Missed.{missed, missed_setting}
use Rattle.law_worked.specs.Moved.{moved, moved_setting}
use Rattle.law_worked.specs.PutThenGet.{put_then_get, put_then_get_setting}
use Rattle.law_worked.specs.Queued.{queued, queued_setting}

abbrev pub wrong_steps : List Wrong
wrong_steps =
    -- a protection takes one step too many
    wrong helped_setting.config helped (Instead 36 (said 0 (events.Held 2 1 16)) ∷ []) (Steps ∷ [])
    -- a protection that finds none takes one too many
    ∷ wrong helped_setting.config helped (Instead 2 (said 2 (events.Null 0 16)) ∷ []) (Steps ∷ [])
    -- something is told before the helper word is withdrawn
    ∷ wrong missed_setting.config missed (Without 10 ∷ Before 9 (said 0 (events.Got 0 0 7 None)) ∷ []) (Withdrawals ∷ [])
    -- a protection counts a step too many
    ∷ wrong put_then_get_setting.config put_then_get (Instead 10 (said 0 (events.Held 0 0 5)) ∷ []) (Tries ∷ [])
    -- an era counts that is published after the protection was over
    ∷ wrong kept_setting.config kept (Before 2 (said 1 (events.Begin calls.Advance)) ∷ Before 2 (said 1 (events.Era 2)) ∷ Before 2 (said 1 (events.End 2 (answers.Clock (moves.Moved 2)))) ∷ Instead 2 (said 0 (events.Null 0 7)) ∷ Before 3 (said 0 (events.Reserve (guards.Index 0 0) (from_to 2 2))) ∷ Until 3 ∷ []) (Tries ∷ [])
    -- an era that is published again is no later one
    ∷ wrong full_setting.config full (Before 14 (said 0 (events.Reserve (guards.Index 0 0) (from_to 1 1))) ∷ Instead 14 (said 0 (events.Held 0 0 7)) ∷ []) (Tries ∷ [])
    -- a row is followed in no step more
    ∷ wrong queued_setting.config queued (Instead 24 (said 0 (events.Held 1 0 4)) ∷ []) (Tries ∷ [])
    -- an era is published again while a helper word is shown that the scheme does not have
    ∷ wrong put_then_get_setting.config put_then_get (Before 1 (said 0 (events.Reserve (guards.Helper 0) (from_to 1 1))) ∷ Before 2 (said 0 (events.Reserve (guards.Index 0 0) (from_to 1 1))) ∷ Instead 2 (said 0 (events.Null 0 7)) ∷ Until 3 ∷ []) (Tries ∷ Named ∷ [])
    -- a protection counts a raise that was none
    ∷ wrong intervals_setting.config intervals (Instead 17 (said 1 (events.Held 0 0 8)) ∷ []) (Raises ∷ [])
    -- a protection asks for help before its tries have failed
    ∷ wrong helped_setting.config helped (Without 14 ∷ []) (Asks ∷ [])
    -- help is asked for in a protection that begins once its word publishes nothing
    ∷ wrong helped_setting.config helped (Before 3 (said 2 (events.Reserve (guards.Index 2 0) None)) ∷ Before 3 (said 2 (events.Reserve (guards.Index 2 0) (from_to 1 1))) ∷ Before 3 (said 2 (events.Reserve (guards.Helper 2) (from_to 1 1))) ∷ Until 3 ∷ []) (Asks ∷ [])
    -- a protection asks for help after two tries at one era, with a hand-over between
    ∷ wrong helped_setting.config helped (Until 9 ∷ Before 9 (said 1 (events.Begin calls.Advance)) ∷ Before 9 (said 1 (events.Reserve (guards.Helper 1) (from_to 1 1))) ∷ Before 9 (said 3 (events.Begin calls.Advance)) ∷ Before 9 (said 3 (events.Era 2)) ∷ Before 9 (said 0 (events.Begin (calls.Hold 7))) ∷ Before 9 (said 0 (events.Reserve (guards.Index 0 2) (from_to 2 2))) ∷ Before 9 (said 1 (events.Reserve (guards.Index 0 2) (from_to 1 1))) ∷ Before 9 (said 0 (events.Reserve (guards.Index 0 2) (from_to 2 2))) ∷ Before 9 (said 0 (events.Reserve (guards.Helper 0) (from_to 2 2))) ∷ Without 8 ∷ []) (Asks ∷ [])
    -- a release takes two steps
    ∷ wrong kept_setting.config kept (Instead 33 (said 1 (events.End 2 answers.Released)) ∷ []) (CallSteps ∷ [])
    -- a scan takes a step too many
    ∷ wrong kept_setting.config kept (Instead 42 (said 0 (events.End 8 (answers.Scanned 0 1))) ∷ []) (CallSteps ∷ [])
    -- an advance takes three steps
    ∷ wrong moved_setting.config moved (Instead 3 (said 1 (events.End 3 (answers.Clock (moves.Moved 2)))) ∷ []) (CallSteps ∷ [])
    -- an advance that helps takes too many steps
    ∷ wrong helped_setting.config helped (Instead 33 (said 1 (events.End 32 (answers.Clock (moves.Moved 4)))) ∷ []) (CallSteps ∷ [])
    -- a hold takes too many steps
    ∷ wrong helped_setting.config helped (Instead 38 (said 0 (events.End 20 (answers.Holding 1))) ∷ []) (CallSteps ∷ [])
    -- a get takes too many steps
    ∷ wrong missed_setting.config missed (Instead 12 (said 0 (events.End 28 (answers.Got 0 None))) ∷ []) (CallSteps ∷ []) ∷ []

abbrev pub WrongStepsRefused : Type 0
WrongStepsRefused = map refused_by wrong_steps ≡ map named_by wrong_steps
