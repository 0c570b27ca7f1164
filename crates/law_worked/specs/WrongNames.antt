-- Records that name what the table does not have. Each is refused by the laws that are named, and by no other.
use Rattle.std.specs.Prelude.{List, [], ◌∷◌, map, ◌≡◌}
use Rattle.wfe_core.specs.defs.declared.event.Event.TheVariants as events
use Rattle.wfe_core.specs.defs.declared.event.Guard.TheVariants as guards
use Rattle.wfe_core.specs.Guards.{from_to}
use Rattle.model_history.specs.Among.{said}
use Rattle.law_worked.specs.Edited.{Wrong, wrong, named_by, refused_by}
use Rattle.law_worked.specs.Edited.Edit.{Before, Instead, Until}
use Rattle.law_worked.specs.Judges.Law.{Named, Ranges}
use Rattle.law_worked.specs.Intervals.{intervals, intervals_setting}
use Rattle.law_worked.specs.PutThenGet.{put_then_get, put_then_get_setting}

abbrev pub wrong_names : List Wrong
wrong_names =
    -- an interval word publishes under Hazard Eras
    wrong put_then_get_setting.config put_then_get (Before 2 (said 0 (events.Reserve (guards.Whole 0) (from_to 1 1))) ∷ Until 2 ∷ []) (Named ∷ [])
    -- an index word publishes that the table does not have
    ∷ wrong put_then_get_setting.config put_then_get (Before 2 (said 0 (events.Reserve (guards.Index 0 7) (from_to 1 1))) ∷ Until 2 ∷ []) (Named ∷ [])
    -- an index word publishes under 2GE
    ∷ wrong intervals_setting.config intervals (Before 10 (said 1 (events.Reserve (guards.Index 1 0) (from_to 1 1))) ∷ Until 10 ∷ []) (Named ∷ [])
    -- a row is given that the table does not have
    ∷ wrong put_then_get_setting.config put_then_get (Instead 3 (said 0 (events.Give 9 1)) ∷ Until 4 ∷ []) (Ranges ∷ []) ∷ []

abbrev pub WrongNamesRefused : Type 0
WrongNamesRefused = map refused_by wrong_names ≡ map named_by wrong_names
