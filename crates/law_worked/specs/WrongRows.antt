-- Records that a sentence on calls, on what stands or on the way of rows refuses. Each is refused by the laws that are named, and by no other.
use Rattle.std.specs.Prelude.{List, [], ◌∷◌, None, map, ◌≡◌}
use Rattle.wfe_core.specs.defs.declared.call.Call.TheVariants as calls
use Rattle.wfe_core.specs.defs.declared.event.Event.TheVariants as events
use Rattle.wfe_core.specs.defs.declared.event.Guard.TheVariants as guards
use Rattle.wfe_core.specs.defs.declared.event.Root.TheVariants as roots
use Rattle.wfe_core.specs.Guards.{from_to}
use Rattle.model_history.specs.Among.{said}
use Rattle.law_worked.specs.Edited.{Wrong, wrong, named_by, refused_by}
use Rattle.law_worked.specs.Edited.Edit.{Before, Instead, Without, Until}
use Rattle.law_worked.specs.Judges.Law.{Calls, Clears, Indexes, Reuse, Free, Placing, Order, Nexts, Retiring, Backs, Blocks, Retires, Throughout, Links, Bare, Counted, Alone}
use Rattle.law_worked.specs.Kept.{kept, kept_setting}
use Rattle.law_worked.specs.PutThenGet.{put_then_get, put_then_get_setting}
use Rattle.law_worked.specs.Queued.{queued, queued_setting}
use Rattle.law_worked.specs.Spent.{spent, spent_setting}
use Rattle.law_worked.specs.Twice.{twice, twice_setting}

abbrev pub wrong_rows : List Wrong
wrong_rows =
    -- a call begins while its seat is in one
    wrong put_then_get_setting.config put_then_get (Without 7 ∷ Before 8 (said 0 (events.Begin calls.Scan)) ∷ Until 8 ∷ []) (Calls ∷ [])
    -- a seat tells an entry outside of its calls
    ∷ wrong put_then_get_setting.config put_then_get (Before 8 (said 0 (events.Reserve (guards.Index 0 0) None)) ∷ []) (Calls ∷ [])
    -- a row is cleared where it does not stand
    ∷ wrong put_then_get_setting.config put_then_get (Before 13 (said 0 (events.Clear 0 0)) ∷ []) (Clears ∷ [])
    -- a get holds at index 2
    ∷ wrong put_then_get_setting.config put_then_get (Instead 9 (said 0 (events.Reserve (guards.Index 0 2) (from_to 1 1))) ∷ Instead 10 (said 0 (events.Held 2 0 4)) ∷ Until 11 ∷ []) (Indexes ∷ [])
    -- a scan clears index 2
    ∷ wrong kept_setting.config kept (Instead 30 (said 1 (events.Begin calls.Scan)) ∷ Until 32 ∷ []) (Indexes ∷ [])
    -- an enqueue holds at index 1
    ∷ wrong queued_setting.config queued (Before 7 (said 0 (events.Reserve (guards.Index 0 1) (from_to 1 1))) ∷ Before 7 (said 0 (events.Held 1 0 5)) ∷ Until 7 ∷ []) (Indexes ∷ [])
    -- a row goes back that another row was held beside, and that was never cleared
    ∷ wrong twice_setting.config twice [] (Reuse ∷ Throughout ∷ Bare ∷ Alone ∷ [])
    -- a row is told unused while it stands
    ∷ wrong kept_setting.config kept (Before 12 (said 0 (events.Begin calls.Scan)) ∷ Before 12 (said 0 (events.Unused 0)) ∷ Until 12 ∷ []) (Reuse ∷ Throughout ∷ [])
    -- a row is given while it stands
    ∷ wrong kept_setting.config kept (Instead 15 (said 0 (events.Give 0 1)) ∷ Until 16 ∷ []) (Reuse ∷ Free ∷ [])
    -- a row is given that is taken
    ∷ wrong kept_setting.config kept (Instead 15 (said 0 (events.Give 8 1)) ∷ Until 16 ∷ []) (Free ∷ [])
    -- a row is told unused that is free
    ∷ wrong kept_setting.config kept (Before 6 (said 0 (events.Unused 5)) ∷ Until 6 ∷ []) (Free ∷ [])
    -- a row goes back that is free
    ∷ wrong kept_setting.config kept (Before 34 (said 1 (events.Begin calls.Release)) ∷ Before 34 (said 1 (events.Unused 0)) ∷ Until 42 ∷ []) (Free ∷ [])
    -- a call is given a second row
    ∷ wrong kept_setting.config kept (Before 16 (said 0 (events.Give 2 1)) ∷ Until 16 ∷ []) (Placing ∷ [])
    -- a row is linked at a bucket that was not given in the call
    ∷ wrong put_then_get_setting.config put_then_get (Instead 4 (said 0 (events.Link (roots.Bucket 0) 3)) ∷ Until 5 ∷ []) (Placing ∷ [])
    -- a row is linked behind another that was not given in the call
    ∷ wrong queued_setting.config queued (Instead 4 (said 0 (events.Link (roots.Next 8) 3)) ∷ Until 5 ∷ []) (Placing ∷ [])
    -- the row that was given is linked twice
    ∷ wrong put_then_get_setting.config put_then_get (Before 6 (said 0 (events.Link (roots.Bucket 0) 0)) ∷ Until 6 ∷ []) (Placing ∷ Links ∷ [])
    -- a call ends with its row neither linked nor unused
    ∷ wrong spent_setting.config spent (Before 35 (said 0 (events.Give 4 1)) ∷ []) (Placing ∷ [])
    -- a call ends with its row both linked and unused
    ∷ wrong put_then_get_setting.config put_then_get (Before 7 (said 0 (events.Unused 0)) ∷ Until 8 ∷ []) (Placing ∷ [])
    -- no change follows a link to a bucket
    ∷ wrong put_then_get_setting.config put_then_get (Without 5 ∷ Until 7 ∷ []) (Order ∷ [])
    -- no cut follows the link that replaces a row
    ∷ wrong kept_setting.config kept (Without 17 ∷ Until 19 ∷ []) (Order ∷ [])
    -- no value is queued after a link behind a row
    ∷ wrong queued_setting.config queued (Without 5 ∷ Until 7 ∷ []) (Order ∷ [])
    -- no value is taken after a link to the head
    ∷ wrong queued_setting.config queued (Without 27 ∷ Until 29 ∷ []) (Order ∷ [])
    -- another seat tells between a link and its change
    ∷ wrong kept_setting.config kept (Before 5 (said 1 (events.Begin calls.Scan)) ∷ Until 5 ∷ []) (Order ∷ [])
    -- a change comes after no link
    ∷ wrong put_then_get_setting.config put_then_get (Before 12 (said 0 (events.Put 0 2 7 71)) ∷ Until 12 ∷ []) (Order ∷ [])
    -- a cut comes after no link
    ∷ wrong put_then_get_setting.config put_then_get (Before 12 (said 0 (events.Cut 0)) ∷ Until 12 ∷ []) (Order ∷ [])
    -- a row is linked behind one that has a next row
    ∷ wrong queued_setting.config queued (Without 6 ∷ Instead 12 (said 0 (events.Held 0 8 4)) ∷ Instead 14 (said 0 (events.Link (roots.Next 8) 1)) ∷ Until 15 ∷ []) (Nexts ∷ [])
    -- the head goes on to another row than the next
    ∷ wrong queued_setting.config queued (Instead 25 (said 0 (events.Link roots.Head 1)) ∷ Until 26 ∷ []) (Nexts ∷ Links ∷ [])
    -- the tail goes on to another row than the next
    ∷ wrong queued_setting.config queued (Instead 16 (said 0 (events.Link roots.Tail 0)) ∷ Until 17 ∷ []) (Nexts ∷ [])
    -- a row is retired that was not cut in the call
    ∷ wrong kept_setting.config kept (Instead 21 (said 0 (events.Retire 1 1 1)) ∷ Until 22 ∷ []) (Retiring ∷ Retires ∷ [])
    -- a row is retired twice
    ∷ wrong kept_setting.config kept (Before 22 (said 0 (events.Retire 0 1 1)) ∷ Until 22 ∷ []) (Retiring ∷ [])
    -- a row that was cut is not retired
    ∷ wrong queued_setting.config queued (Without 32 ∷ Until 34 ∷ []) (Retiring ∷ Counted ∷ [])
    -- a row goes back from the list of another seat
    ∷ wrong kept_setting.config kept (Instead 34 (said 1 (events.Begin calls.Scan)) ∷ Instead 35 (said 1 (events.Read (guards.Index 0 0) None)) ∷ Instead 36 (said 1 (events.Read (guards.Index 0 1) None)) ∷ Instead 37 (said 1 (events.Read (guards.Index 0 2) None)) ∷ Instead 38 (said 1 (events.Read (guards.Index 1 0) None)) ∷ Instead 39 (said 1 (events.Read (guards.Index 1 1) None)) ∷ Instead 40 (said 1 (events.Read (guards.Index 1 2) None)) ∷ Instead 41 (said 1 (events.Back 0)) ∷ Until 42 ∷ []) (Backs ∷ Blocks ∷ []) ∷ []

abbrev pub WrongRowsRefused : Type 0
WrongRowsRefused = map refused_by wrong_rows ≡ map named_by wrong_rows
