-- Calls of readers, and what they tell.
use Rattle.std.specs.Prelude.{Some, None, ◌≡◌, [], ◌∷◌, ◌++◌}
use Rattle.wfe_core.specs.words.declared.config.SchemeKind.TheVariants.{He, Ibr}
use Rattle.wfe_core.specs.defs.declared.call.Answer.TheVariants as answers
use Rattle.wfe_core.specs.defs.declared.call.Call.TheVariants as calls
use Rattle.wfe_core.specs.defs.declared.call.ClockMove.TheVariants as moves
use Rattle.wfe_core.specs.defs.declared.event.Event.TheVariants as events
use Rattle.wfe_core.specs.defs.declared.event.Guard.TheVariants as guards
use Rattle.wfe_core.specs.defs.declared.event.Root.TheVariants as roots
use Rattle.model_record.specs.Record.{tells_of}
use Rattle.model_record.specs.Record.Past.{Start}
use Rattle.wfe_core.specs.Guards.{from_to}
use Rattle.model_history.specs.History.{record_of, times}
use Rattle.model_history.specs.Among.{call, to_end, said, setting, entries, left_over}

-- a put and a get of its key
abbrev pub PutThenGetUnderHazardEras : Type 0
PutThenGetUnderHazardEras =
    record_of (setting He 1 8 2 1 100 100) (call 0 (calls.Put 7 70) ++ to_end 0 ++ call 0 (calls.Get 7) ++ to_end 0)
    ≡ tells_of Start 0 (
    events.Begin (calls.Put 7 70)
    ∷ events.Reserve (guards.Index 0 0) (from_to 1 1)
    ∷ events.Null 0 4
    ∷ events.Give 0 1
    ∷ events.Link (roots.Bucket 0) 0
    ∷ events.Put 0 1 7 70
    ∷ events.Reserve (guards.Index 0 0) None
    ∷ events.End 13 (answers.Done 1 moves.Still)
    ∷ events.Begin (calls.Get 7)
    ∷ events.Reserve (guards.Index 0 0) (from_to 1 1)
    ∷ events.Held 0 0 4
    ∷ events.Got 0 1 7 (Some 70)
    ∷ events.Clear 0 0
    ∷ events.Reserve (guards.Index 0 0) None
    ∷ events.End 9 (answers.Got 1 (Some 70)) ∷ [])

-- the same under 2GE: what the get tells
abbrev pub GetUnderIntervals : Type 0
GetUnderIntervals =
    record_of (setting Ibr 1 8 2 1 100 100) (call 0 (calls.Put 7 70) ++ to_end 0 ++ call 0 (calls.Get 7) ++ to_end 0)
    ≡ tells_of (record_of (setting Ibr 1 8 2 1 100 100) (call 0 (calls.Put 7 70) ++ to_end 0)) 0 (
    events.Begin (calls.Get 7)
    ∷ events.Reserve (guards.Whole 0) (from_to 1 1)
    ∷ events.Held 0 0 2
    ∷ events.Got 0 1 7 (Some 70)
    ∷ events.Clear 0 0
    ∷ events.Reserve (guards.Whole 0) None
    ∷ events.End 9 (answers.Got 1 (Some 70)) ∷ [])

-- and how both calls end
abbrev pub EndsUnderIntervals : Type 0
EndsUnderIntervals =
    left_over
    (
    said 0 (events.End 13 (answers.Done 1 moves.Still))
    ∷ said 0 (events.End 9 (answers.Got 1 (Some 70))) ∷ []
    )
    (entries (record_of (setting Ibr 1 8 2 1 100 100) (call 0 (calls.Put 7 70) ++ to_end 0 ++ call 0 (calls.Get 7) ++ to_end 0)) [])
    ≡ []

-- the clock moves between a reader's load of the link and its check
abbrev pub ReaderOvertakenTriesAgain : Type 0
ReaderOvertakenTriesAgain =
    left_over
    (
    said 0 (events.Era 2)
    ∷ said 0 (events.Read (guards.Index 1 2) (from_to 1 1))
    ∷ said 0 (events.End 28 (answers.Done 2 (moves.Moved 2)))
    ∷ said 1 (events.Reserve (guards.Index 1 2) (from_to 2 2))
    ∷ said 1 (events.Held 2 1 7)
    ∷ said 1 (events.End 7 (answers.Holding 1))
    ∷ said 0 (events.Read (guards.Index 1 2) (from_to 2 2))
    ∷ said 0 (events.Back 0)
    ∷ said 0 (events.End 7 (answers.Scanned 0 1)) ∷ []
    )
    (entries (record_of (setting He 2 8 2 1 100 100) (call 0 (calls.Put 7 70) ++ to_end 0 ++ call 1 (calls.Hold 7) ++ times 3 1 ++ call 0 (calls.Put 7 71) ++ to_end 0 ++ to_end 1 ++ call 0 calls.Scan ++ to_end 0)) [])
    ≡ []

-- a get raises the interval under which a row is held
abbrev pub IntervalIsRaised : Type 0
IntervalIsRaised =
    left_over
    (
    said 1 (events.Reserve (guards.Whole 1) (from_to 1 1))
    ∷ said 1 (events.Held 2 0 2)
    ∷ said 1 (events.End 4 (answers.Holding 0))
    ∷ said 0 (events.End 2 (answers.Clock (moves.Moved 2)))
    ∷ said 1 (events.Reserve (guards.Whole 1) (from_to 1 2))
    ∷ said 1 (events.Held 0 0 5)
    ∷ said 1 (events.End 9 (answers.Got 1 (Some 0)))
    ∷ said 1 (events.Clear 2 0)
    ∷ said 1 (events.Reserve (guards.Whole 1) None)
    ∷ said 1 (events.End 1 answers.Released) ∷ []
    )
    (entries (record_of (setting Ibr 2 8 2 1 100 100) (call 0 (calls.Put 7 0) ++ to_end 0 ++ call 1 (calls.Hold 7) ++ to_end 1 ++ call 0 calls.Advance ++ to_end 0 ++ call 1 (calls.Get 7) ++ to_end 1 ++ call 1 calls.Release ++ to_end 1)) [])
    ≡ []
