-- Requests of readers under Wait-Free Eras, and movers that answer them.
use Rattle.std.specs.Prelude.{None, ◌≡◌, [], ◌∷◌, ◌++◌}
use Rattle.wfe_core.specs.words.declared.config.SchemeKind.TheVariants.{Wfe}
use Rattle.wfe_core.specs.defs.declared.call.Answer.TheVariants as answers
use Rattle.wfe_core.specs.defs.declared.call.Call.TheVariants as calls
use Rattle.wfe_core.specs.defs.declared.call.ClockMove.TheVariants as moves
use Rattle.wfe_core.specs.defs.declared.event.Event.TheVariants as events
use Rattle.wfe_core.specs.defs.declared.event.Guard.TheVariants as guards
use Rattle.wfe_core.specs.Guards.{from_to}
use Rattle.model_history.specs.History.{record_of, times}
use Rattle.model_history.specs.Among.{call, to_end, said, setting, entries, left_over}

-- a helper is stopped between its answer and its hand-over while a scan runs
abbrev pub HelperStopsBeforeHandOver : Type 0
HelperStopsBeforeHandOver =
    left_over
    (
    said 1 (events.End 6 (answers.Clock (moves.Moved 2)))
    ∷ said 0 (events.Reserve (guards.Index 0 2) (from_to 2 2))
    ∷ said 3 (events.Era 3)
    ∷ said 3 (events.End 6 (answers.Clock (moves.Moved 3)))
    ∷ said 2 (events.Retire 0 1 3)
    ∷ said 2 (events.End 20 (answers.Done 2 moves.Still))
    ∷ said 1 (events.Reserve (guards.Helper 1) (from_to 3 3))
    ∷ said 2 (events.Give 2 3)
    ∷ said 2 (events.Retire 1 3 3)
    ∷ said 2 (events.Read (guards.Helper 1) (from_to 3 3))
    ∷ said 2 (events.Read (guards.Index 0 2) (from_to 2 2))
    ∷ said 1 (events.Reserve (guards.Index 0 2) (from_to 3 3))
    ∷ said 1 (events.Reserve (guards.Helper 1) None)
    ∷ said 1 (events.Era 4)
    ∷ said 1 (events.End 13 (answers.Clock (moves.Moved 4)))
    ∷ said 2 (events.End 16 (answers.Scanned 2 0))
    ∷ said 0 (events.Reserve (guards.Helper 0) (from_to 4 4))
    ∷ said 0 (events.Reserve (guards.Index 0 2) (from_to 3 3))
    ∷ said 0 (events.Held 2 1 12)
    ∷ said 0 (events.Reserve (guards.Helper 0) None)
    ∷ said 0 (events.End 14 (answers.Holding 1))
    ∷ said 0 (events.Clear 2 1)
    ∷ said 0 (events.End 1 answers.Released)
    ∷ said 2 (events.Back 0)
    ∷ said 2 (events.Back 1)
    ∷ said 2 (events.End 18 (answers.Scanned 0 2)) ∷ []
    )
    (entries (record_of (setting Wfe 4 8 1 100 100 100) (call 2 (calls.Put 7 70) ++ to_end 2 ++ call 0 (calls.Hold 7) ++ times 3 0 ++ call 1 calls.Advance ++ to_end 1 ++ call 3 calls.Advance ++ times 5 3 ++ times 3 0 ++ to_end 3 ++ call 2 (calls.Put 7 71) ++ to_end 2 ++ call 1 calls.Advance ++ times 6 1 ++ call 2 (calls.Put 7 72) ++ to_end 2 ++ call 2 calls.Scan ++ times 12 2 ++ to_end 1 ++ to_end 2 ++ to_end 0 ++ call 0 calls.Release ++ to_end 0 ++ call 2 calls.Scan ++ to_end 2)) [])
    ≡ []

-- two movers stand at their exchange of the clock as the request is published
abbrev pub MoversAtTheirExchange : Type 0
MoversAtTheirExchange =
    left_over
    (
    said 1 (events.End 5 (answers.Clock (moves.Moved 2)))
    ∷ said 0 (events.Reserve (guards.Index 0 2) (from_to 2 2))
    ∷ said 0 (events.Reserve (guards.Helper 0) (from_to 2 2))
    ∷ said 1 (events.Era 3)
    ∷ said 1 (events.End 5 (answers.Clock (moves.Moved 3)))
    ∷ said 2 (events.End 5 (answers.Clock (moves.Other 3)))
    ∷ said 0 (events.Reserve (guards.Helper 0) (from_to 3 3))
    ∷ said 0 (events.Reserve (guards.Index 0 2) (from_to 3 3))
    ∷ said 0 (events.Held 2 0 15)
    ∷ said 0 (events.Reserve (guards.Helper 0) None)
    ∷ said 0 (events.End 17 (answers.Holding 0)) ∷ []
    )
    (entries (record_of (setting Wfe 3 8 1 100 100 100) (call 0 (calls.Put 7 70) ++ to_end 0 ++ call 0 (calls.Hold 7) ++ times 3 0 ++ call 1 calls.Advance ++ to_end 1 ++ call 1 calls.Advance ++ times 4 1 ++ call 2 calls.Advance ++ times 4 2 ++ times 5 0 ++ to_end 1 ++ to_end 2 ++ to_end 0)) [])
    ≡ []

-- a helper that loaded one request meets the next one at its exchange
abbrev pub LateHelperMeetsSecondRequest : Type 0
LateHelperMeetsSecondRequest =
    left_over
    (
    said 1 (events.Reserve (guards.Helper 1) (from_to 2 2))
    ∷ said 0 (events.Held 2 0 12)
    ∷ said 0 (events.End 14 (answers.Holding 0))
    ∷ said 0 (events.End 1 answers.Released)
    ∷ said 2 (events.End 5 (answers.Clock (moves.Moved 3)))
    ∷ said 0 (events.Reserve (guards.Index 0 2) (from_to 3 3))
    ∷ said 1 (events.Reserve (guards.Helper 1) None)
    ∷ said 1 (events.End 10 (answers.Clock (moves.Other 3)))
    ∷ said 0 (events.Reserve (guards.Helper 0) (from_to 3 3))
    ∷ said 0 (events.Held 2 0 12)
    ∷ said 0 (events.Reserve (guards.Helper 0) None)
    ∷ said 0 (events.End 14 (answers.Holding 0)) ∷ []
    )
    (entries (record_of (setting Wfe 3 8 1 100 100 100) (call 2 (calls.Put 7 70) ++ to_end 2 ++ call 0 (calls.Hold 7) ++ times 3 0 ++ call 2 calls.Advance ++ to_end 2 ++ times 3 0 ++ call 1 calls.Advance ++ times 5 1 ++ to_end 0 ++ call 0 calls.Release ++ to_end 0 ++ call 0 (calls.Hold 7) ++ times 3 0 ++ call 2 calls.Advance ++ to_end 2 ++ times 3 0 ++ to_end 1 ++ to_end 0)) [])
    ≡ []
