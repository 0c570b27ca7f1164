-- Records that a sentence refuses on lists that are left and taken over. Each is refused by the laws that are named, and by no other.
use Rattle.std.specs.Prelude.{List, [], ◌∷◌, map, ◌≡◌}
use Rattle.wfe_core.specs.defs.declared.call.Call.TheVariants as calls
use Rattle.wfe_core.specs.defs.declared.event.Event.TheVariants as events
use Rattle.model_history.specs.Among.{said}
use Rattle.law_worked.specs.Edited.{Wrong, wrong, named_by, refused_by}
use Rattle.law_worked.specs.Edited.Edit.{Before, Instead, Without, Until}
use Rattle.law_worked.specs.Judges.Law.{Lists, Told}
use Rattle.law_worked_later.specs.Leaves.HandedOver.{handed_over, handed_over_setting}
use Rattle.law_worked_later.specs.Leaves.PassedOn.{passed_on, passed_on_setting}

abbrev pub wrong_lists : List Wrong
wrong_lists =
    -- a list is left in a call that only scans
    wrong handed_over_setting.config handed_over (Instead 29 (said 0 (events.Begin calls.Scan)) ∷ Without 30 ∷ Without 31 ∷ Without 32 ∷ Without 33 ∷ Until 35 ∷ []) (Lists ∷ [])
    -- a list is left in a call that takes one over
    ∷ wrong passed_on_setting.config passed_on (Instead 35 (said 1 (events.Begin (calls.Adopt 2))) ∷ Until 37 ∷ []) (Lists ∷ [])
    -- a list is left with more lives than it has
    ∷ wrong handed_over_setting.config handed_over (Instead 34 (said 0 (events.Left 2)) ∷ Until 35 ∷ []) (Lists ∷ [])
    -- a list is left with fewer
    ∷ wrong handed_over_setting.config handed_over (Instead 34 (said 0 (events.Left 0)) ∷ Until 35 ∷ []) (Lists ∷ [])
    -- a list is left without the lives that were taken over
    ∷ wrong passed_on_setting.config passed_on (Instead 36 (said 1 (events.Left 0)) ∷ Until 37 ∷ []) (Lists ∷ [])
    -- a list is left twice
    ∷ wrong handed_over_setting.config handed_over (Before 35 (said 0 (events.Left 1)) ∷ Until 36 ∷ []) (Told ∷ [])
    -- a seat leaves and does not tell so
    ∷ wrong handed_over_setting.config handed_over (Without 34 ∷ Until 36 ∷ []) (Told ∷ [])
    -- a list is taken over in a call that only scans
    ∷ wrong handed_over_setting.config handed_over (Instead 36 (said 1 (events.Begin calls.Scan)) ∷ Until 38 ∷ []) (Lists ∷ [])
    -- a list is taken over by a seat that leaves
    ∷ wrong passed_on_setting.config passed_on (Instead 32 (said 1 (events.Begin calls.Leave)) ∷ Until 34 ∷ []) (Lists ∷ [])
    -- another list is taken over than the call names
    ∷ wrong passed_on_setting.config passed_on (Instead 40 (said 2 (events.Begin (calls.Adopt 0))) ∷ Until 42 ∷ []) (Lists ∷ [])
    -- a list is taken over that was not left
    ∷ wrong handed_over_setting.config handed_over (Before 1 (said 1 (events.Adopted 0 0)) ∷ Until 1 ∷ []) (Lists ∷ [])
    -- a list is taken over by another seat too
    ∷ wrong passed_on_setting.config passed_on (Before 39 (said 2 (events.Adopted 0 0)) ∷ Until 39 ∷ []) (Lists ∷ [])
    -- a list is taken over by the same seat again
    ∷ wrong handed_over_setting.config handed_over (Before 51 (said 1 (events.Adopted 0 0)) ∷ Until 51 ∷ []) (Lists ∷ [])
    -- a list is taken over with more lives than it has
    ∷ wrong handed_over_setting.config handed_over (Instead 37 (said 1 (events.Adopted 0 2)) ∷ Until 38 ∷ []) (Lists ∷ [])
    -- a list is taken over with fewer
    ∷ wrong handed_over_setting.config handed_over (Instead 37 (said 1 (events.Adopted 0 0)) ∷ Until 38 ∷ []) (Lists ∷ [])
    -- a list is taken over without the lives that its seat had taken over
    ∷ wrong passed_on_setting.config passed_on (Instead 41 (said 2 (events.Adopted 1 0)) ∷ Until 42 ∷ []) (Lists ∷ [])
    -- a list is taken over and the call does not tell so
    ∷ wrong handed_over_setting.config handed_over (Without 37 ∷ Until 39 ∷ []) (Told ∷ []) ∷ []

abbrev pub WrongListsRefused : Type 0
WrongListsRefused = map refused_by wrong_lists ≡ map named_by wrong_lists
