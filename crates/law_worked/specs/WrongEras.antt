-- Records that a sentence on eras refuses. Each is refused by the laws that are named, and by no other.
use Rattle.std.specs.Prelude.{List, [], ◌∷◌, None, map, ◌≡◌}
use Rattle.wfe_core.specs.defs.declared.call.Answer.TheVariants as answers
use Rattle.wfe_core.specs.defs.declared.call.ClockMove.TheVariants as moves
use Rattle.wfe_core.specs.defs.declared.event.Event.TheVariants as events
use Rattle.wfe_core.specs.defs.declared.event.Guard.TheVariants as guards
use Rattle.wfe_core.specs.Guards.{from_to}
use Rattle.model_history.specs.Among.{said}
use Rattle.law_worked.specs.Edited.{Wrong, wrong, named_by, refused_by}
use Rattle.law_worked.specs.Edited.Edit.{Before, Instead, Without, Until}
use Rattle.law_worked.specs.Judges.Law.{Eras, Moves, Births, Retires, Current, Single, Rising, Guards}
use Rattle.law_worked.specs.Full.{full, full_setting}
use Rattle.law_worked.specs.Helped.{helped, helped_setting}
use Rattle.law_worked.specs.Intervals.{intervals, intervals_setting}
use Rattle.law_worked.specs.Kept.{kept, kept_setting}
use Rattle.law_worked.specs.Moved.{moved, moved_setting}
use Rattle.law_worked.specs.PutThenGet.{put_then_get, put_then_get_setting}
use Rattle.law_worked.specs.Spent.{spent, spent_setting}

abbrev pub wrong_eras : List Wrong
wrong_eras =
    -- the clock is moved by two eras
    wrong kept_setting.config kept (Instead 22 (said 0 (events.Era 3)) ∷ Instead 29 (said 0 (events.End 28 (answers.Done 2 (moves.Moved 3)))) ∷ []) (Eras ∷ [])
    -- the clock is moved past its last era
    ∷ wrong moved_setting.config moved (Instead 9 (said 0 (events.Era 4)) ∷ Until 10 ∷ []) (Eras ∷ [])
    -- a get moves the clock
    ∷ wrong put_then_get_setting.config put_then_get (Before 14 (said 0 (events.Era 2)) ∷ []) (Moves ∷ [])
    -- an advance moves the clock twice
    ∷ wrong moved_setting.config moved (Before 3 (said 1 (events.Era 3)) ∷ Until 3 ∷ []) (Moves ∷ [])
    -- a put moves the clock twice before its scan
    ∷ wrong full_setting.config full (Before 29 (said 0 (events.Era 3)) ∷ Until 29 ∷ []) (Moves ∷ [])
    -- a put ends without the scan for which it has moved the clock
    ∷ wrong put_then_get_setting.config put_then_get (Before 7 (said 0 (events.Era 2)) ∷ Until 8 ∷ []) (Moves ∷ [])
    -- a birth era was never the clock in the call
    ∷ wrong kept_setting.config kept (Instead 15 (said 0 (events.Give 1 2)) ∷ Until 16 ∷ []) (Births ∷ [])
    -- a row is retired with another birth era
    ∷ wrong kept_setting.config kept (Instead 21 (said 0 (events.Retire 0 0 1)) ∷ []) (Retires ∷ [])
    -- a row is retired that is free
    ∷ wrong spent_setting.config spent (Before 22 (said 0 (events.Unused 0)) ∷ Until 23 ∷ []) (Retires ∷ [])
    -- a retire era was the clock before the cut alone
    ∷ wrong helped_setting.config helped (Instead 26 (said 2 (events.Retire 0 1 2)) ∷ []) (Retires ∷ [])
    -- an era is published that was the clock before the call alone
    ∷ wrong helped_setting.config helped (Instead 18 (said 2 (events.Reserve (guards.Index 2 0) (from_to 2 2))) ∷ Until 19 ∷ []) (Current ∷ [])
    -- an index word publishes two eras
    ∷ wrong put_then_get_setting.config put_then_get (Instead 9 (said 0 (events.Reserve (guards.Index 0 0) (from_to 0 1))) ∷ []) (Single ∷ [])
    -- the lower end of an interval moves
    ∷ wrong intervals_setting.config intervals (Instead 16 (said 1 (events.Reserve (guards.Whole 1) (from_to 2 2))) ∷ Until 17 ∷ []) (Rising ∷ [])
    -- the upper end of an interval stays
    ∷ wrong intervals_setting.config intervals (Before 3 (said 0 (events.Reserve (guards.Whole 0) (from_to 1 1))) ∷ []) (Rising ∷ [])
    -- a seat publishes at the guard of another
    ∷ wrong kept_setting.config kept (Before 6 (said 0 (events.Reserve (guards.Index 1 1) None)) ∷ []) (Guards ∷ [])
    -- a helper hands on another era than its own word publishes
    ∷ wrong helped_setting.config helped (Without 30 ∷ Without 31 ∷ Before 33 (said 1 (events.Reserve (guards.Index 0 2) (from_to 4 4))) ∷ Until 33 ∷ []) (Guards ∷ []) ∷ []

abbrev pub WrongErasRefused : Type 0
WrongErasRefused = map refused_by wrong_eras ≡ map named_by wrong_eras
