-- Records that a sentence on answers refuses. Each is refused by the laws that are named, and by no other.
use Rattle.std.specs.Prelude.{List, [], ◌∷◌, map, ◌≡◌}
use Rattle.wfe_core.specs.defs.declared.call.Answer.TheVariants as answers
use Rattle.wfe_core.specs.defs.declared.call.ClockMove.TheVariants as moves
use Rattle.wfe_core.specs.defs.declared.event.Event.TheVariants as events
use Rattle.model_history.specs.Among.{said}
use Rattle.law_worked.specs.Edited.{Wrong, wrong, named_by, refused_by}
use Rattle.law_worked.specs.Edited.Edit.{Instead, Without, Until}
use Rattle.law_worked.specs.Judges.Law.{Full, Clock, Repeats}
use Rattle.law_worked_later.specs.Hazards.Crowded.{crowded, crowded_setting}
use Rattle.law_worked_later.specs.Hazards.Followed.{followed, followed_setting}
use Rattle.law_worked_later.specs.Hazards.Seen.{seen, seen_setting}

abbrev pub wrong_answers : List Wrong
wrong_answers =
    -- a put answers that it moved the clock
    wrong seen_setting.config seen (Instead 25 (said 0 (events.End 25 (answers.Done 2 (moves.Moved 2)))) ∷ Until 26 ∷ []) (Clock ∷ [])
    -- a put answers that another moved the clock
    ∷ wrong seen_setting.config seen (Instead 25 (said 0 (events.End 25 (answers.Done 2 (moves.Other 2)))) ∷ Until 26 ∷ []) (Clock ∷ [])
    -- a put answers that the clock stands at its last era
    ∷ wrong seen_setting.config seen (Instead 25 (said 0 (events.End 25 (answers.Done 2 (moves.EraSpent 3)))) ∷ Until 26 ∷ []) (Clock ∷ [])
    -- a dequeue answers that it moved the clock
    ∷ wrong followed_setting.config followed (Instead 74 (said 1 (events.End 16 (answers.Taken 1 5 (moves.Moved 2)))) ∷ Until 75 ∷ []) (Clock ∷ [])
    -- an advance answers that the clock is still
    ∷ wrong seen_setting.config seen (Instead 61 (said 1 (events.End 2 (answers.Clock moves.Still))) ∷ []) (Clock ∷ [])
    -- an advance answers an era that it did not tell
    ∷ wrong seen_setting.config seen (Without 60 ∷ []) (Clock ∷ [])
    -- a put answers Full without a scan
    ∷ wrong crowded_setting.config crowded (Without 33 ∷ Without 34 ∷ Without 35 ∷ Without 36 ∷ Without 37 ∷ Without 38 ∷ Until 44 ∷ []) (Full ∷ Repeats ∷ []) ∷ []

abbrev pub WrongAnswersRefused : Type 0
WrongAnswersRefused = map refused_by wrong_answers ≡ map named_by wrong_answers
