-- Records that a sentence on seats that leave refuses: on what is told after that, on rows that they let go of, or on what goes back. Each is
-- refused by the laws that are named, and by no other.
use Rattle.std.specs.Prelude.{List, [], ◌∷◌, None, map, ◌≡◌}
use Rattle.wfe_core.specs.defs.declared.call.Answer.TheVariants as answers
use Rattle.wfe_core.specs.defs.declared.call.Call.TheVariants as calls
use Rattle.wfe_core.specs.defs.declared.event.Event.TheVariants as events
use Rattle.wfe_core.specs.defs.declared.event.Guard.TheVariants as guards
use Rattle.model_history.specs.Among.{said}
use Rattle.law_worked.specs.Edited.{Wrong, wrong, named_by, refused_by}
use Rattle.law_worked.specs.Edited.Edit.{Before, Instead, Without, Until}
use Rattle.law_worked.specs.Judges.Law.{Calls, Clears, Indexes, Backs, Blocks, Throughout, Rests}
use Rattle.law_worked_later.specs.Leaves.HandedOver.{handed_over, handed_over_setting}
use Rattle.law_worked_later.specs.Leaves.PassedOn.{passed_on, passed_on_setting}

abbrev pub wrong_rows : List Wrong
wrong_rows =
    -- a call begins on a seat that has left
    wrong handed_over_setting.config handed_over (Before 36 (said 0 (events.Begin calls.Scan)) ∷ Until 36 ∷ []) (Calls ∷ [])
    -- so does one that takes a list over
    ∷ wrong passed_on_setting.config passed_on (Before 38 (said 0 (events.Begin (calls.Adopt 1))) ∷ Until 38 ∷ []) (Calls ∷ [])
    -- a seat that has left tells that a row goes back
    ∷ wrong handed_over_setting.config handed_over (Before 36 (said 0 (events.Back 0)) ∷ Until 36 ∷ []) (Calls ∷ Blocks ∷ [])
    -- a seat tells so that has left its list to another seat, which has taken it over
    ∷ wrong handed_over_setting.config handed_over (Before 34 (said 0 (events.Left 1)) ∷ Before 34 (said 1 (events.Begin (calls.Adopt 0))) ∷ Before 34 (said 1 (events.Adopted 0 1)) ∷ Before 34 (said 0 (events.Back 0)) ∷ Until 34 ∷ []) (Backs ∷ Blocks ∷ [])
    -- a row goes back of a list that the seat has not taken over
    ∷ wrong handed_over_setting.config handed_over (Without 36 ∷ Without 37 ∷ Without 38 ∷ Until 49 ∷ []) (Backs ∷ Blocks ∷ [])
    -- a scan leaves out a life that was taken over
    ∷ wrong handed_over_setting.config handed_over (Without 48 ∷ Instead 49 (said 1 (events.End 8 (answers.Scanned 1 0))) ∷ Until 50 ∷ []) (Blocks ∷ [])
    -- a scan leaves out a life that has come by way of two seats
    ∷ wrong passed_on_setting.config passed_on (Without 47 ∷ Instead 48 (said 2 (events.End 3 (answers.Scanned 1 0))) ∷ Until 49 ∷ []) (Blocks ∷ [])
    -- a look clears index 2 and the one above it
    ∷ wrong handed_over_setting.config handed_over (Instead 29 (said 0 (events.Begin (calls.Look 2 7))) ∷ Until 31 ∷ []) (Indexes ∷ [])
    -- a call that takes a list over clears index 2
    ∷ wrong handed_over_setting.config handed_over (Instead 29 (said 0 (events.Begin (calls.Adopt 1))) ∷ Until 31 ∷ []) (Indexes ∷ [])
    -- a scan clears an index above 2
    ∷ wrong handed_over_setting.config handed_over (Before 29 (said 0 (events.Begin calls.Release)) ∷ Before 29 (said 0 (events.Clear 2 1)) ∷ Before 29 (said 0 (events.Reserve (guards.Index 0 2) None)) ∷ Before 29 (said 0 (events.End 1 answers.Released)) ∷ Before 29 (said 0 (events.Begin calls.Advance)) ∷ Before 29 (said 0 (events.Clear 3 1)) ∷ Until 29 ∷ []) (Indexes ∷ [])
    -- a seat that leaves clears a row that does not stand there
    ∷ wrong handed_over_setting.config handed_over (Instead 32 (said 0 (events.Clear 3 0)) ∷ Until 33 ∷ []) (Clears ∷ [])
    -- it clears index 1, which only a dequeue uses
    ∷ wrong handed_over_setting.config handed_over (Instead 30 (said 0 (events.Clear 1 1)) ∷ Until 31 ∷ []) (Clears ∷ Indexes ∷ [])
    -- it withdraws an index word while the row stands there
    ∷ wrong handed_over_setting.config handed_over (Without 30 ∷ Until 32 ∷ []) (Throughout ∷ [])
    -- it ends while an index word publishes at which nothing stands
    ∷ wrong handed_over_setting.config handed_over (Without 33 ∷ Until 36 ∷ []) (Rests ∷ [])
    -- under 2GE it withdraws its interval before its rows are cleared
    ∷ wrong passed_on_setting.config passed_on (Without 27 ∷ Until 30 ∷ []) (Throughout ∷ [])
    -- under 2GE it ends while its interval word publishes
    ∷ wrong passed_on_setting.config passed_on (Without 29 ∷ Until 32 ∷ []) (Rests ∷ []) ∷ []

abbrev pub WrongRowsRefused : Type 0
WrongRowsRefused = map refused_by wrong_rows ≡ map named_by wrong_rows
