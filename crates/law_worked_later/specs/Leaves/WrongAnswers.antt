-- Records that a sentence refuses on what calls answer that leave or take a list over. Each is refused by the laws that are named, and by no
-- other.
use Rattle.std.specs.Prelude.{List, [], ◌∷◌, map, ◌≡◌}
use Rattle.wfe_core.specs.defs.declared.call.Answer.TheVariants as answers
use Rattle.wfe_core.specs.defs.declared.event.Event.TheVariants as events
use Rattle.model_history.specs.Among.{said}
use Rattle.law_worked.specs.Edited.{Wrong, wrong, named_by, refused_by}
use Rattle.law_worked.specs.Edited.Edit.{Instead, Without, Until}
use Rattle.law_worked.specs.Judges.Law.{Told, Reasons}
use Rattle.law_worked_later.specs.Leaves.HandedOver.{handed_over, handed_over_setting}
use Rattle.law_worked_later.specs.Leaves.PassedOn.{passed_on, passed_on_setting}

abbrev pub wrong_answers : List Wrong
wrong_answers =
    -- a seat leaves while a row stands at an index above 2
    wrong handed_over_setting.config handed_over (Without 32 ∷ Without 33 ∷ Instead 35 (said 0 (events.End 2 (answers.Left 1))) ∷ Until 36 ∷ []) (Reasons ∷ [])
    -- a seat leaves while a row stands at index 2
    ∷ wrong handed_over_setting.config handed_over (Without 30 ∷ Without 31 ∷ Instead 35 (said 0 (events.End 2 (answers.Left 1))) ∷ Until 36 ∷ []) (Reasons ∷ [])
    -- under 2GE a seat leaves while a row stands
    ∷ wrong passed_on_setting.config passed_on (Without 28 ∷ Without 29 ∷ Instead 31 (said 0 (events.End 1 (answers.Left 1))) ∷ Until 32 ∷ []) (Reasons ∷ [])
    -- a seat answers that it left more lives than it told
    ∷ wrong handed_over_setting.config handed_over (Instead 35 (said 0 (events.End 3 (answers.Left 2))) ∷ Until 36 ∷ []) (Told ∷ [])
    -- a call that leaves answers that it took a list over
    ∷ wrong handed_over_setting.config handed_over (Instead 35 (said 0 (events.End 3 (answers.Adopted 1))) ∷ Until 36 ∷ []) (Told ∷ [])
    -- a call answers that it took over more lives than it told
    ∷ wrong handed_over_setting.config handed_over (Instead 38 (said 1 (events.End 2 (answers.Adopted 2))) ∷ Until 39 ∷ []) (Told ∷ [])
    -- a call answers that the list was not left, which had been left before it began
    ∷ wrong handed_over_setting.config handed_over (Instead 51 (said 1 (events.End 1 answers.NotLeft)) ∷ []) (Reasons ∷ [])
    -- a call answers that another one took the list over, where none did
    ∷ wrong handed_over_setting.config handed_over (Instead 1 (said 1 (events.End 1 answers.AdoptedBefore)) ∷ Until 2 ∷ []) (Reasons ∷ [])
    -- a call answers so of a list that was left, and that none took over
    ∷ wrong handed_over_setting.config handed_over (Without 37 ∷ Instead 38 (said 1 (events.End 1 answers.AdoptedBefore)) ∷ Until 39 ∷ []) (Reasons ∷ [])
    -- a call answers so of the list that it took over itself
    ∷ wrong handed_over_setting.config handed_over (Instead 38 (said 1 (events.End 2 answers.AdoptedBefore)) ∷ Until 39 ∷ []) (Reasons ∷ [])
    -- a scan counts no life that was taken over
    ∷ wrong handed_over_setting.config handed_over (Instead 49 (said 1 (events.End 9 (answers.Scanned 1 1))) ∷ Until 50 ∷ []) (Reasons ∷ []) ∷ []

abbrev pub WrongAnswersRefused : Type 0
WrongAnswersRefused = map refused_by wrong_answers ≡ map named_by wrong_answers
