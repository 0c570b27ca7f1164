-- Another seat moves the clock first, and then the clock has come to its last era: the record, and what the laws refuse of it once a line is changed.
use Rattle.std.specs.Prelude.{List, [], ◌∷◌, ◌++◌}
use Rattle.wfe_core.specs.words.declared.layout.Layout.{Layout}
use Rattle.wfe_core.specs.words.declared.config.SchemeKind.TheVariants.{He}
use Rattle.wfe_core.specs.defs.Entry.{Entry}
use Rattle.wfe_core.specs.defs.declared.call.Answer.TheVariants as answers
use Rattle.wfe_core.specs.defs.declared.call.Call.TheVariants as calls
use Rattle.wfe_core.specs.defs.declared.call.ClockMove.TheVariants as moves
use Rattle.wfe_core.specs.defs.declared.event.Event.TheVariants as events
use Rattle.model_history.specs.History.{Item, times}
use Rattle.model_history.specs.Among.{call, said, setting, to_end}
use Rattle.law_worked.specs.Judges.Law.{Calls, Clears, Indexes, Copies, Reuse, Free, Placing, Order, Nexts, Retiring, Backs, Lists, Blocks, Reads, Due, Room, Eras, Moves, Advances, Births, Retires, Current, Single, Rising, Guards, Kinds, Throughout, Sources, Finds, Gots, Links, Behind, Bare, Rests, Map, Values, Emptied, Steps, Withdrawals, Tries, Raises, Hazards, Asks, CallSteps, Told, Reasons, Full, Lacks, Counted, Refusals, Clock, Repeats, Alone, Named, Ranges}
use Rattle.law_worked.specs.Refusals.{IsWorked, Row, row}

abbrev pub moved_setting : Layout
moved_setting = setting He 2 8 2 100 3 100

abbrev pub moved_items : List Item
moved_items = call 0 calls.Advance ++ times 1 0 ++ call 1 calls.Advance ++ to_end 1 ++ to_end 0 ++ call 1 calls.Advance ++ to_end 1 ++ call 0 calls.Advance ++ to_end 0

abbrev pub moved : List Entry
moved =
    said 0 (events.Begin calls.Advance)
    ∷ said 1 (events.Begin calls.Advance)
    ∷ said 1 (events.Era 2)
    ∷ said 1 (events.End 2 (answers.Clock (moves.Moved 2)))
    ∷ said 0 (events.End 2 (answers.Clock (moves.Other 2)))
    ∷ said 1 (events.Begin calls.Advance)
    ∷ said 1 (events.Era 3)
    ∷ said 1 (events.End 2 (answers.Clock (moves.Moved 3)))
    ∷ said 0 (events.Begin calls.Advance)
    ∷ said 0 (events.End 1 (answers.Clock (moves.EraSpent 3))) ∷ []

-- of each law the places at which it refuses a line that is dropped, told twice, told after the next one, altered, or slowed
abbrev pub moved_table : List Row
moved_table =
    row Calls (0 ∷ 1 ∷ 3 ∷ 4 ∷ 5 ∷ 8 ∷ []) (0 ∷ 1 ∷ 3 ∷ 4 ∷ 5 ∷ 7 ∷ 8 ∷ 9 ∷ []) (1 ∷ 2 ∷ 5 ∷ 6 ∷ 8 ∷ []) [] []
    ∷ row Clears [] [] [] [] []
    ∷ row Indexes [] [] [] [] []
    ∷ row Copies [] [] [] [] []
    ∷ row Reuse [] [] [] [] []
    ∷ row Free [] [] [] [] []
    ∷ row Placing [] [] [] [] []
    ∷ row Order [] [] [] [] []
    ∷ row Nexts [] [] [] [] []
    ∷ row Retiring [] [] [] [] []
    ∷ row Backs [] [] [] [] []
    ∷ row Lists [] [] [] [] []
    ∷ row Blocks [] [] [] [] []
    ∷ row Reads [] [] [] [] []
    ∷ row Due [] [] [] (0 ∷ 1 ∷ 5 ∷ 8 ∷ []) []
    ∷ row Room [] [] [] [] []
    ∷ row Eras (2 ∷ []) (2 ∷ 6 ∷ []) [] (2 ∷ 6 ∷ []) []
    ∷ row Moves (1 ∷ 5 ∷ []) (2 ∷ 6 ∷ []) (5 ∷ []) (1 ∷ 5 ∷ []) []
    ∷ row Advances [] [] [] [] []
    ∷ row Births [] [] [] [] []
    ∷ row Retires [] [] [] [] []
    ∷ row Current [] [] [] [] []
    ∷ row Single [] [] [] [] []
    ∷ row Rising [] [] [] [] []
    ∷ row Guards [] [] [] [] []
    ∷ row Kinds [] [] [] [] []
    ∷ row Throughout [] [] [] [] []
    ∷ row Sources [] [] [] [] []
    ∷ row Finds [] [] [] [] []
    ∷ row Gots [] [] [] [] []
    ∷ row Links [] [] [] [] []
    ∷ row Behind [] [] [] [] []
    ∷ row Bare [] [] [] [] []
    ∷ row Rests [] [] [] [] []
    ∷ row Map [] [] [] [] []
    ∷ row Values [] [] [] [] []
    ∷ row Emptied [] [] [] [] []
    ∷ row Steps [] [] [] [] []
    ∷ row Withdrawals [] [] [] [] []
    ∷ row Tries [] [] [] [] []
    ∷ row Raises [] [] [] [] []
    ∷ row Hazards [] [] [] [] []
    ∷ row Asks [] [] [] [] []
    ∷ row CallSteps [] [] [] (0 ∷ 1 ∷ 5 ∷ 8 ∷ []) (3 ∷ 4 ∷ 7 ∷ 9 ∷ [])
    ∷ row Told (0 ∷ 1 ∷ []) [] [] (0 ∷ 1 ∷ 5 ∷ 8 ∷ []) []
    ∷ row Reasons [] [] [] [] []
    ∷ row Full [] [] [] [] []
    ∷ row Lacks [] [] [] [] []
    ∷ row Counted [] [] [] [] []
    ∷ row Refusals [] [] [] [] []
    ∷ row Clock (0 ∷ 1 ∷ 2 ∷ 6 ∷ []) (2 ∷ 6 ∷ []) (1 ∷ 2 ∷ 5 ∷ 6 ∷ []) (0 ∷ 1 ∷ 2 ∷ 3 ∷ 4 ∷ 5 ∷ 6 ∷ 7 ∷ 8 ∷ 9 ∷ []) []
    ∷ row Repeats [] [] [] [] []
    ∷ row Alone [] [] [] [] []
    ∷ row Named [] [] [] [] []
    ∷ row Ranges [] [] [] [] [] ∷ []

abbrev pub MovedWorked : Type 0
MovedWorked = IsWorked moved_setting moved_items moved moved_table
