-- Records that a sentence on answers refuses. Each is refused by the laws that are named, and by no other.
use Rattle.std.specs.Prelude.{List, [], ◌∷◌, Some, map, ◌≡◌}
use Rattle.wfe_core.specs.defs.declared.call.Answer.TheVariants as answers
use Rattle.wfe_core.specs.defs.declared.call.Call.TheVariants as calls
use Rattle.wfe_core.specs.defs.declared.call.ClockMove.TheVariants as moves
use Rattle.wfe_core.specs.defs.declared.event.Event.TheVariants as events
use Rattle.model_history.specs.Among.{said}
use Rattle.law_worked.specs.Edited.{Wrong, wrong, named_by, refused_by}
use Rattle.law_worked.specs.Edited.Edit.{Before, Instead, Without, Until}
use Rattle.law_worked.specs.Judges.Law.{Retiring, Told, Reasons, Full, Lacks, Counted, Refusals, Clock, Repeats}
use Rattle.law_worked.specs.Full.{full, full_setting, worn_setting}
use Rattle.law_worked.specs.Kept.{kept, kept_setting}
use Rattle.law_worked.specs.Moved.{moved, moved_setting}
use Rattle.law_worked.specs.PutThenGet.{put_then_get, put_then_get_setting}
use Rattle.law_worked.specs.Queued.{queued, queued_setting}
use Rattle.law_worked.specs.Spent.{spent, spent_setting}

abbrev pub wrong_answers : List Wrong
wrong_answers =
    -- a put answers what it did not tell
    wrong put_then_get_setting.config put_then_get (Instead 0 (said 0 (events.Begin (calls.Put 7 71))) ∷ []) (Told ∷ [])
    -- a get answers what it told twice
    ∷ wrong put_then_get_setting.config put_then_get (Before 12 (said 0 (events.Got 0 1 7 (Some 70))) ∷ []) (Told ∷ [])
    -- a release answers as a hold
    ∷ wrong kept_setting.config kept (Instead 33 (said 1 (events.End 1 answers.Nothing)) ∷ []) (Told ∷ [])
    -- a hold answers another row than it holds
    ∷ wrong kept_setting.config kept (Instead 11 (said 1 (events.End 4 (answers.Holding 1))) ∷ []) (Reasons ∷ [])
    -- a scan answers another number of rows that it kept
    ∷ wrong kept_setting.config kept (Instead 42 (said 0 (events.End 7 (answers.Scanned 1 1))) ∷ []) (Reasons ∷ [])
    -- a remove finds a key absent that is there
    ∷ wrong spent_setting.config spent (Instead 24 (said 0 (events.Begin (calls.Remove 8))) ∷ []) (Reasons ∷ [])
    -- a remove is spent before the last version
    ∷ wrong spent_setting.config spent (Instead 35 (said 0 (events.End 11 (answers.Spent 1))) ∷ []) (Reasons ∷ [])
    -- a put answers that the table is full before it has scanned
    ∷ wrong full_setting.config full (Without 28 ∷ Without 29 ∷ Without 30 ∷ Without 31 ∷ Without 32 ∷ Without 33 ∷ Without 34 ∷ Without 35 ∷ Until 37 ∷ []) (Full ∷ [])
    -- a full table refuses a put that the last version would have refused
    ∷ wrong worn_setting.config full (Until 37 ∷ []) (Lacks ∷ [])
    -- a dequeue retires no row
    ∷ wrong queued_setting.config queued (Without 32 ∷ Until 34 ∷ []) (Retiring ∷ Counted ∷ [])
    -- a refused enqueue has queued its value
    ∷ wrong spent_setting.config spent (Instead 55 (said 0 (events.End 15 (answers.Spent 2))) ∷ []) (Refusals ∷ [])
    -- a clock that moved is told still
    ∷ wrong kept_setting.config kept (Instead 29 (said 0 (events.End 28 (answers.Done 2 moves.Still))) ∷ []) (Clock ∷ [])
    -- an era is answered that the call did not move the clock to
    ∷ wrong kept_setting.config kept (Instead 29 (said 0 (events.End 28 (answers.Done 2 (moves.Moved 3)))) ∷ []) (Clock ∷ [])
    -- an era is answered that the clock has not come to
    ∷ wrong moved_setting.config moved (Instead 4 (said 0 (events.End 2 (answers.Clock (moves.Other 3)))) ∷ []) (Clock ∷ [])
    -- the last era is answered before it has come
    ∷ wrong moved_setting.config moved (Instead 4 (said 0 (events.End 2 (answers.Clock (moves.EraSpent 3)))) ∷ []) (Clock ∷ [])
    -- a get looks at its root twice
    ∷ wrong put_then_get_setting.config put_then_get (Before 11 (said 0 (events.Clear 0 0)) ∷ Before 11 (said 0 (events.Held 0 0 4)) ∷ []) (Repeats ∷ []) ∷ []

abbrev pub WrongAnswersRefused : Type 0
WrongAnswersRefused = map refused_by wrong_answers ≡ map named_by wrong_answers
