-- Records that a sentence on what stands refuses. Each is refused by the laws that are named, and by no other.
use Rattle.std.specs.Prelude.{List, [], ◌∷◌, Some, None, map, ◌≡◌}
use Rattle.wfe_core.specs.defs.declared.event.Event.TheVariants as events
use Rattle.wfe_core.specs.defs.declared.event.Guard.TheVariants as guards
use Rattle.model_history.specs.Among.{said}
use Rattle.law_worked.specs.Edited.{Wrong, wrong, named_by, refused_by}
use Rattle.law_worked.specs.Edited.Edit.{Before, Instead, Without, Until}
use Rattle.law_worked.specs.Judges.Law.{Throughout, Bare, Rests}
use Rattle.law_worked_later.specs.Hazards.Followed.{followed, followed_setting}
use Rattle.law_worked_later.specs.Hazards.PutThenGet.{put_then_get, put_then_get_setting}
use Rattle.law_worked_later.specs.Hazards.Seen.{seen, seen_setting}

abbrev pub wrong_holds : List Wrong
wrong_holds =
    -- another row is published while one stands
    wrong put_then_get_setting.config put_then_get (Before 10 (said 0 (events.Hazard (guards.Index 0 0) (Some 2))) ∷ Until 10 ∷ []) (Throughout ∷ [])
    -- what published a row is withdrawn while the row stands
    ∷ wrong put_then_get_setting.config put_then_get (Before 10 (said 0 (events.Hazard (guards.Index 0 0) None)) ∷ Until 10 ∷ []) (Throughout ∷ [])
    -- it is withdrawn while the row stands, and published again
    ∷ wrong seen_setting.config seen (Before 28 (said 1 (events.Hazard (guards.Index 1 2) None)) ∷ Before 28 (said 1 (events.Hazard (guards.Index 1 2) (Some 1))) ∷ Until 28 ∷ []) (Throughout ∷ [])
    -- a row stands where another one is published
    ∷ wrong seen_setting.config seen (Instead 27 (said 1 (events.Held 2 0 5)) ∷ Until 28 ∷ []) (Throughout ∷ [])
    -- a row stands at an index whose word publishes nothing
    ∷ wrong seen_setting.config seen (Before 28 (said 1 (events.Held 0 1 1)) ∷ Until 28 ∷ []) (Throughout ∷ [])
    -- a row is copied where nothing is published
    ∷ wrong followed_setting.config followed (Without 12 ∷ Until 14 ∷ []) (Throughout ∷ [])
    -- a call ends while its index word publishes
    ∷ wrong put_then_get_setting.config put_then_get (Without 12 ∷ []) (Rests ∷ [])
    -- a row is let go that its index word still publishes
    ∷ wrong seen_setting.config seen (Without 57 ∷ Until 59 ∷ []) (Rests ∷ [])
    -- a call ends while an index word above 2 publishes for none
    ∷ wrong followed_setting.config followed (Without 49 ∷ Until 51 ∷ []) (Rests ∷ [])
    -- a call ends while a row stands at index 0
    ∷ wrong put_then_get_setting.config put_then_get (Without 11 ∷ Without 12 ∷ []) (Bare ∷ Rests ∷ []) ∷ []

abbrev pub WrongHoldsRefused : Type 0
WrongHoldsRefused = map refused_by wrong_holds ≡ map named_by wrong_holds
