-- Records that a sentence on what is held refuses. Each is refused by the laws that are named, and by no other.
use Rattle.std.specs.Prelude.{List, [], ◌∷◌, None, Some, map, ◌≡◌}
use Rattle.wfe_core.specs.defs.declared.call.Call.TheVariants as calls
use Rattle.wfe_core.specs.defs.declared.event.Event.TheVariants as events
use Rattle.wfe_core.specs.defs.declared.event.Guard.TheVariants as guards
use Rattle.wfe_core.specs.Guards.{from_to}
use Rattle.model_history.specs.Among.{said}
use Rattle.law_worked.specs.Edited.{Wrong, wrong, named_by, refused_by}
use Rattle.law_worked.specs.Edited.Edit.{Before, Instead, Without, Until}
use Rattle.law_worked.specs.Judges.Law.{Throughout, Sources, Finds, Gots, Links, Behind, Bare, Rests, Alone}
use Rattle.law_worked.specs.Full.{full, full_setting}
use Rattle.law_worked.specs.Intervals.{intervals, intervals_setting}
use Rattle.law_worked.specs.Kept.{kept, kept_setting}
use Rattle.law_worked.specs.PutThenGet.{put_then_get, put_then_get_setting}
use Rattle.law_worked.specs.Queued.{queued, queued_setting}

abbrev pub wrong_holds : List Wrong
wrong_holds =
    -- a row stands under a guard that publishes nothing
    wrong put_then_get_setting.config put_then_get (Without 12 ∷ Before 14 (said 0 (events.Clear 0 0)) ∷ []) (Throughout ∷ [])
    -- a row stands under a guard whose eras do not meet its life
    ∷ wrong kept_setting.config kept (Before 29 (said 1 (events.Begin calls.Advance)) ∷ Before 29 (said 1 (events.Reserve (guards.Index 1 2) (from_to 2 2))) ∷ Until 29 ∷ []) (Throughout ∷ [])
    -- a row is held that the root never had in the call
    ∷ wrong kept_setting.config kept (Instead 14 (said 0 (events.Held 0 8 4)) ∷ Until 15 ∷ []) (Sources ∷ [])
    -- a bucket is told empty that never was in the call
    ∷ wrong kept_setting.config kept (Instead 14 (said 0 (events.Null 0 4)) ∷ Until 15 ∷ []) (Sources ∷ [])
    -- an enqueue holds a row that the tail never had in the call
    ∷ wrong queued_setting.config queued (Instead 12 (said 0 (events.Held 0 8 4)) ∷ Until 13 ∷ []) (Sources ∷ [])
    -- a dequeue holds a row that the head never had in the call
    ∷ wrong queued_setting.config queued (Instead 22 (said 0 (events.Held 0 0 4)) ∷ Until 23 ∷ []) (Sources ∷ [])
    -- a put ends without a look at its root
    ∷ wrong put_then_get_setting.config put_then_get (Without 2 ∷ []) (Finds ∷ [])
    -- a get tells a version whose row does not stand
    ∷ wrong put_then_get_setting.config put_then_get (Without 11 ∷ Before 13 (said 0 (events.Got 0 1 7 (Some 70))) ∷ []) (Gots ∷ [])
    -- a get tells version 0 and has found a row
    ∷ wrong kept_setting.config kept (Before 0 (said 1 (events.Begin (calls.Get 7))) ∷ Before 8 (said 1 (events.Reserve (guards.Index 1 0) (from_to 1 1))) ∷ Before 8 (said 1 (events.Held 0 0 4)) ∷ Before 8 (said 1 (events.Got 0 0 7 None)) ∷ Until 8 ∷ []) (Gots ∷ [])
    -- a row is linked in place of one that does not stand
    ∷ wrong kept_setting.config kept (Without 14 ∷ Without 19 ∷ Until 17 ∷ []) (Links ∷ [])
    -- a row is linked behind one that does not stand
    ∷ wrong queued_setting.config queued (Without 2 ∷ Until 5 ∷ []) (Links ∷ [])
    -- the head goes on to a row that does not stand
    ∷ wrong queued_setting.config queued (Without 24 ∷ Until 26 ∷ []) (Links ∷ [])
    -- a row is followed that is not behind the head
    ∷ wrong queued_setting.config queued (Instead 24 (said 0 (events.Held 1 1 5)) ∷ Until 25 ∷ []) (Behind ∷ [])
    -- a next row is told missing that was there throughout
    ∷ wrong queued_setting.config queued (Instead 24 (said 0 (events.Null 1 4)) ∷ Until 25 ∷ []) (Behind ∷ [])
    -- a call ends while a row stands at index 0
    ∷ wrong intervals_setting.config intervals (Without 19 ∷ Until 21 ∷ []) (Bare ∷ [])
    -- a call ends while its index word publishes
    ∷ wrong put_then_get_setting.config put_then_get (Without 13 ∷ []) (Rests ∷ [])
    -- a release ends while its index word publishes
    ∷ wrong kept_setting.config kept (Without 32 ∷ Until 34 ∷ []) (Rests ∷ [])
    -- a release ends while its interval word publishes
    ∷ wrong intervals_setting.config intervals (Without 37 ∷ Until 39 ∷ []) (Rests ∷ [])
    -- a row is held at an index at which one stands
    ∷ wrong full_setting.config full (Before 12 (said 0 (events.Begin (calls.Hold 7))) ∷ Before 12 (said 0 (events.Held 2 0 4)) ∷ Until 12 ∷ []) (Alone ∷ []) ∷ []

abbrev pub WrongHoldsRefused : Type 0
WrongHoldsRefused = map refused_by wrong_holds ≡ map named_by wrong_holds
