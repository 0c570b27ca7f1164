-- Records that a sentence on copies refuses, or on what is dropped. Each is refused by the laws that are named, and by no other.
use Rattle.std.specs.Prelude.{List, [], ◌∷◌, None, map, ◌≡◌}
use Rattle.wfe_core.specs.defs.declared.call.Answer.TheVariants as answers
use Rattle.wfe_core.specs.defs.declared.call.Call.TheVariants as calls
use Rattle.wfe_core.specs.defs.declared.event.Event.TheVariants as events
use Rattle.wfe_core.specs.defs.declared.event.Guard.TheVariants as guards
use Rattle.wfe_core.specs.Guards.{from_to}
use Rattle.model_history.specs.Among.{said}
use Rattle.law_worked.specs.Edited.{Wrong, wrong, named_by, refused_by}
use Rattle.law_worked.specs.Edited.Edit.{Before, Instead, Without, Until}
use Rattle.law_worked.specs.Judges.Law.{Clears, Indexes, Copies, Reuse, Free, Blocks, Reads, Current, Single, Rising, Guards, Throughout, Rests, CallSteps, Alone, Named, Ranges}
use Rattle.law_worked_later.specs.Copies.Copied.{copied, copied_setting}
use Rattle.law_worked_later.specs.Copies.CopiedAnew.{copied_anew, copied_anew_setting}
use Rattle.law_worked_later.specs.Copies.KeptTwice.{kept_twice, kept_twice_setting}

abbrev pub wrong_copies : List Wrong
wrong_copies =
    -- another row is copied than stands there
    wrong copied_setting.config copied (Instead 17 (said 1 (events.Copied 2 3 8)) ∷ Until 18 ∷ []) (Copies ∷ [])
    -- a row is copied from where none stands
    ∷ wrong copied_setting.config copied (Before 19 (said 0 (events.Begin (calls.Copy 2 3))) ∷ Before 19 (said 0 (events.Reserve (guards.Index 0 3) (from_to 2 2))) ∷ Before 19 (said 0 (events.Copied 2 3 8)) ∷ Until 19 ∷ []) (Copies ∷ [])
    -- a row is copied downwards
    ∷ wrong copied_setting.config copied (Before 23 (said 1 (events.Begin (calls.Copy 3 2))) ∷ Before 23 (said 1 (events.Reserve (guards.Index 1 2) (from_to 1 1))) ∷ Before 23 (said 1 (events.Copied 3 2 0)) ∷ Until 23 ∷ []) (Copies ∷ [])
    -- a row is copied to where one stands
    ∷ wrong copied_anew_setting.config copied_anew (Without 37 ∷ Until 40 ∷ []) (Copies ∷ Alone ∷ [])
    -- under 2GE a row is copied to where it stands
    ∷ wrong kept_twice_setting.config kept_twice (Before 14 (said 1 (events.Copied 2 3 0)) ∷ Until 14 ∷ []) (Copies ∷ Alone ∷ [])
    -- another call than a copy copies a row
    ∷ wrong copied_anew_setting.config copied_anew (Instead 12 (said 1 (events.Begin (calls.Look 2 7))) ∷ Until 15 ∷ []) (Copies ∷ [])
    -- a release clears a higher index
    ∷ wrong copied_setting.config copied (Instead 46 (said 1 (events.Begin calls.Release)) ∷ Until 49 ∷ []) (Indexes ∷ [])
    -- a drop of index 2 clears a higher one
    ∷ wrong copied_setting.config copied (Instead 46 (said 1 (events.Begin (calls.DropIndex 2))) ∷ Until 49 ∷ []) (Indexes ∷ [])
    -- a drop of a higher index clears index 2
    ∷ wrong copied_anew_setting.config copied_anew (Instead 41 (said 1 (events.Begin (calls.DropIndex 3))) ∷ Until 44 ∷ []) (Indexes ∷ [])
    -- a copy clears the index from which it copies
    ∷ wrong copied_setting.config copied (Before 18 (said 1 (events.Clear 2 0)) ∷ Until 18 ∷ []) (Indexes ∷ [])
    -- a drop clears another row than stands there
    ∷ wrong copied_setting.config copied (Instead 47 (said 1 (events.Clear 3 1)) ∷ Until 48 ∷ []) (Clears ∷ [])
    -- a row goes back that stands at the higher index alone
    ∷ wrong copied_setting.config copied (Before 45 (said 0 (events.Back 0)) ∷ Instead 45 (said 0 (events.End 9 (answers.Scanned 0 1))) ∷ Until 46 ∷ []) (Reuse ∷ Blocks ∷ Throughout ∷ [])
    -- a row is given that stands at the higher index alone
    ∷ wrong copied_setting.config copied (Instead 26 (said 0 (events.Give 0 2)) ∷ Until 27 ∷ []) (Reuse ∷ Free ∷ Throughout ∷ [])
    -- a scan finds that the higher index publishes nothing while a row stands there
    ∷ wrong copied_setting.config copied (Instead 44 (said 0 (events.Read (guards.Index 1 3) None)) ∷ Until 45 ∷ []) (Reads ∷ [])
    -- a copy publishes what was neither the clock nor that of its index
    ∷ wrong copied_setting.config copied (Instead 16 (said 1 (events.Reserve (guards.Index 1 3) (from_to 0 0))) ∷ Until 17 ∷ []) (Current ∷ [])
    -- a copy publishes what the index word of another seat publishes
    ∷ wrong copied_setting.config copied (Before 15 (said 0 (events.Begin (calls.Copy 2 3))) ∷ Before 15 (said 0 (events.Reserve (guards.Index 0 3) (from_to 1 1))) ∷ Until 15 ∷ []) (Current ∷ [])
    -- under Wait-Free Eras a copy publishes anew what the index word publishes to which it copies
    ∷ wrong copied_anew_setting.config copied_anew (Without 37 ∷ Before 36 (said 1 (events.Begin calls.Release)) ∷ Before 36 (said 1 (events.Clear 2 1)) ∷ Before 36 (said 1 (events.Reserve (guards.Index 1 2) None)) ∷ Before 36 (said 1 (events.End 1 answers.Released)) ∷ Until 39 ∷ []) (Current ∷ [])
    -- another call than a copy publishes what its index word publishes
    ∷ wrong copied_setting.config copied (Instead 15 (said 1 (events.Begin (calls.DropIndex 2))) ∷ Until 17 ∷ []) (Current ∷ [])
    -- a copy publishes two eras
    ∷ wrong copied_setting.config copied (Instead 16 (said 1 (events.Reserve (guards.Index 1 3) (from_to 1 2))) ∷ Until 17 ∷ []) (Single ∷ [])
    -- under 2GE a copy publishes the interval that stands
    ∷ wrong kept_twice_setting.config kept_twice (Before 13 (said 1 (events.Reserve (guards.Whole 1) (from_to 1 1))) ∷ Until 15 ∷ []) (Rising ∷ [])
    -- a copy publishes at the guard of another seat
    ∷ wrong copied_setting.config copied (Instead 16 (said 1 (events.Reserve (guards.Index 0 3) (from_to 1 1))) ∷ Until 17 ∷ []) (Guards ∷ [])
    -- a row is copied to an index that publishes nothing
    ∷ wrong copied_setting.config copied (Without 16 ∷ Until 18 ∷ []) (Throughout ∷ [])
    -- a row is copied under an era that does not meet its life
    ∷ wrong copied_anew_setting.config copied_anew (Without 27 ∷ Without 28 ∷ Without 29 ∷ Without 30 ∷ Without 31 ∷ Without 32 ∷ Instead 38 (said 1 (events.Reserve (guards.Index 1 3) (from_to 2 2))) ∷ Instead 39 (said 1 (events.Copied 2 3 0)) ∷ Until 40 ∷ []) (Throughout ∷ [])
    -- the higher index publishes nothing any more while a row stands there
    ∷ wrong copied_setting.config copied (Before 23 (said 1 (events.Begin (calls.DropIndex 2))) ∷ Before 23 (said 1 (events.Reserve (guards.Index 1 3) None)) ∷ Until 23 ∷ []) (Throughout ∷ [])
    -- under 2GE the interval is withdrawn with one of two rows
    ∷ wrong kept_twice_setting.config kept_twice (Before 31 (said 1 (events.Reserve (guards.Whole 1) None)) ∷ Until 31 ∷ []) (Throughout ∷ [])
    -- a drop ends while its index word publishes
    ∷ wrong copied_setting.config copied (Without 48 ∷ Until 50 ∷ []) (Rests ∷ [])
    -- a release ends while its index word publishes, which was copied
    ∷ wrong copied_setting.config copied (Without 21 ∷ Until 23 ∷ []) (Rests ∷ [])
    -- under 2GE a drop of the last row ends while the interval word publishes
    ∷ wrong kept_twice_setting.config kept_twice (Without 36 ∷ Until 38 ∷ []) (Rests ∷ [])
    -- a copy takes one step
    ∷ wrong copied_setting.config copied (Instead 18 (said 1 (events.End 1 (answers.Copied 0))) ∷ []) (CallSteps ∷ [])
    -- under 2GE a copy takes two steps
    ∷ wrong kept_twice_setting.config kept_twice (Instead 14 (said 1 (events.End 2 (answers.Copied 0))) ∷ []) (CallSteps ∷ [])
    -- a copy of nothing takes two steps
    ∷ wrong kept_twice_setting.config kept_twice (Instead 39 (said 1 (events.End 2 answers.Nothing)) ∷ []) (CallSteps ∷ [])
    -- a drop takes two steps
    ∷ wrong copied_setting.config copied (Instead 49 (said 1 (events.End 2 answers.Dropped)) ∷ []) (CallSteps ∷ [])
    -- a row is copied to an index that the table does not have
    ∷ wrong kept_twice_setting.config kept_twice (Instead 12 (said 1 (events.Begin (calls.Copy 2 4))) ∷ Instead 13 (said 1 (events.Copied 2 4 0)) ∷ Until 14 ∷ []) (Ranges ∷ [])
    -- a copy publishes at an index that the table does not have
    ∷ wrong copied_setting.config copied (Instead 15 (said 1 (events.Begin (calls.Copy 2 4))) ∷ Instead 16 (said 1 (events.Reserve (guards.Index 1 4) (from_to 1 1))) ∷ Until 17 ∷ []) (Named ∷ []) ∷ []

abbrev pub WrongCopiesRefused : Type 0
WrongCopiesRefused = map refused_by wrong_copies ≡ map named_by wrong_copies
