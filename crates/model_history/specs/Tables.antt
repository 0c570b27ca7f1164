-- Calls that take rows and give them back.
use Rattle.std.specs.Prelude.{Some, None, ℕ, zero, suc, List, ◌≡◌, [], ◌∷◌, ◌++◌}
use Rattle.wfe_core.specs.words.declared.config.SchemeKind.TheVariants.{He}
use Rattle.wfe_core.specs.defs.declared.call.Answer.TheVariants as answers
use Rattle.wfe_core.specs.defs.declared.call.Call.TheVariants as calls
use Rattle.wfe_core.specs.defs.declared.call.ClockMove.TheVariants as moves
use Rattle.wfe_core.specs.defs.declared.event.Event.TheVariants as events
use Rattle.wfe_core.specs.defs.declared.event.Guard.TheVariants as guards
use Rattle.wfe_core.specs.defs.declared.event.Root.TheVariants as roots
use Rattle.model_record.specs.Record.{tells_of}
use Rattle.model_record.specs.Record.Past.{Start}
use Rattle.wfe_core.specs.Guards.{from_to}
use Rattle.model_history.specs.History.{Item, record_of}
use Rattle.model_history.specs.Among.{call, to_end, said, setting, entries, left_over}

-- a put retires the row that it replaced, and its own scan gives that row back
abbrev pub PutGivesBackInItsOwnScan : Type 0
PutGivesBackInItsOwnScan =
    record_of (setting He 1 8 2 1 100 100) (call 0 (calls.Put 7 70) ++ to_end 0 ++ call 0 (calls.Put 7 71) ++ to_end 0)
    ≡ tells_of Start 0 (
    events.Begin (calls.Put 7 70)
    ∷ events.Reserve (guards.Index 0 0) (from_to 1 1)
    ∷ events.Null 0 4
    ∷ events.Give 0 1
    ∷ events.Link (roots.Bucket 0) 0
    ∷ events.Put 0 1 7 70
    ∷ events.Reserve (guards.Index 0 0) None
    ∷ events.End 13 (answers.Done 1 moves.Still)
    ∷ events.Begin (calls.Put 7 71)
    ∷ events.Reserve (guards.Index 0 0) (from_to 1 1)
    ∷ events.Held 0 0 4
    ∷ events.Give 1 1
    ∷ events.Link (roots.Bucket 0) 1
    ∷ events.Cut 0
    ∷ events.Put 0 2 7 71
    ∷ events.Clear 0 0
    ∷ events.Reserve (guards.Index 0 0) None
    ∷ events.Retire 0 1 1
    ∷ events.Era 2
    ∷ events.Read (guards.Index 0 0) None
    ∷ events.Read (guards.Index 0 1) None
    ∷ events.Read (guards.Index 0 2) None
    ∷ events.Back 0
    ∷ events.End 26 (answers.Done 2 (moves.Moved 2)) ∷ [])

-- no row is free: the call moves the clock, scans, and walks again
abbrev pub FullTableScansAndTriesAgain : Type 0
FullTableScansAndTriesAgain =
    left_over
    (
    said 0 (events.End 30 answers.Full)
    ∷ said 0 (events.Begin (calls.Put 7 72))
    ∷ said 0 (events.Back 0)
    ∷ said 0 (events.Give 0 4)
    ∷ said 0 (events.Retire 1 1 4)
    ∷ said 0 (events.Back 1)
    ∷ said 0 (events.End 50 (answers.Done 3 (moves.Moved 5))) ∷ []
    )
    (entries (record_of (setting He 2 2 2 1 100 100) (call 0 (calls.Put 7 70) ++ to_end 0 ++ call 1 (calls.Hold 7) ++ to_end 1 ++ call 0 (calls.Put 7 71) ++ to_end 0 ++ call 0 (calls.Put 7 72) ++ to_end 0 ++ call 1 calls.Release ++ to_end 1 ++ call 0 (calls.Put 7 72) ++ to_end 0)) [])
    ≡ []

-- how the calls of that run end
abbrev pub EndsInAFullTable : Type 0
EndsInAFullTable =
    left_over
    (
    said 0 (events.End 13 (answers.Done 1 moves.Still))
    ∷ said 1 (events.End 4 (answers.Holding 0))
    ∷ said 0 (events.End 28 (answers.Done 2 (moves.Moved 2)))
    ∷ said 0 (events.End 30 answers.Full)
    ∷ said 1 (events.End 1 answers.Released)
    ∷ said 0 (events.End 50 (answers.Done 3 (moves.Moved 5))) ∷ []
    )
    (entries (record_of (setting He 2 2 2 1 100 100) (call 0 (calls.Put 7 70) ++ to_end 0 ++ call 1 (calls.Hold 7) ++ to_end 1 ++ call 0 (calls.Put 7 71) ++ to_end 0 ++ call 0 (calls.Put 7 72) ++ to_end 0 ++ call 1 calls.Release ++ to_end 1 ++ call 0 (calls.Put 7 72) ++ to_end 0)) [])
    ≡ []

-- a bucket with six keys takes no seventh
abbrev pub FullBucket : Type 0
FullBucket =
    left_over
    (
    said 0 (events.Begin (calls.Put 7 70))
    ∷ said 0 (events.End 19 (answers.BucketFull 6))
    ∷ said 0 (events.Give 6 6)
    ∷ said 0 (events.Put 0 7 3 99)
    ∷ said 0 (events.Retire 5 5 6)
    ∷ said 0 (events.Era 7)
    ∷ said 0 (events.Back 5)
    ∷ said 0 (events.End 46 (answers.Done 7 (moves.Moved 7))) ∷ []
    )
    (entries (record_of (setting He 1 8 2 1 100 100) (call 0 (calls.Put 1 10) ++ to_end 0 ++ call 0 (calls.Put 2 20) ++ to_end 0 ++ call 0 (calls.Put 3 30) ++ to_end 0 ++ call 0 (calls.Put 4 40) ++ to_end 0 ++ call 0 (calls.Put 5 50) ++ to_end 0 ++ call 0 (calls.Put 6 60) ++ to_end 0 ++ call 0 (calls.Put 7 70) ++ to_end 0 ++ call 0 (calls.Put 3 99) ++ to_end 0)) [])
    ≡ []

-- the clock stops at its last era
abbrev pub LastEra : Type 0
LastEra =
    left_over
    (
    said 0 (events.End 2 (answers.Clock (moves.Moved 2)))
    ∷ said 0 (events.End 2 (answers.Clock (moves.Moved 3)))
    ∷ said 0 (events.End 1 (answers.Clock (moves.EraSpent 3)))
    ∷ said 0 (events.Give 0 3)
    ∷ said 0 (events.End 13 (answers.Done 1 moves.Still))
    ∷ said 0 (events.Retire 0 3 3)
    ∷ said 0 (events.Back 0)
    ∷ said 0 (events.End 25 (answers.Done 2 (moves.EraSpent 3)))
    ∷ said 0 (events.End 9 (answers.Got 2 (Some 71))) ∷ []
    )
    (entries (record_of (setting He 1 8 2 1 3 100) (call 0 calls.Advance ++ to_end 0 ++ call 0 calls.Advance ++ to_end 0 ++ call 0 calls.Advance ++ to_end 0 ++ call 0 (calls.Put 7 70) ++ to_end 0 ++ call 0 (calls.Put 7 71) ++ to_end 0 ++ call 0 (calls.Get 7) ++ to_end 0)) [])
    ≡ []

-- a remove of a key that is not there, and of one that is
abbrev pub Removes : Type 0
Removes =
    left_over
    (
    said 0 (events.End 5 (answers.Absent 0))
    ∷ said 0 (events.End 13 (answers.Done 1 moves.Still))
    ∷ said 0 (events.End 24 (answers.Done 2 (moves.Moved 2)))
    ∷ said 0 (events.End 7 (answers.Got 2 None)) ∷ []
    )
    (entries (record_of (setting He 1 8 2 1 100 100) (call 0 (calls.Remove 5) ++ to_end 0 ++ call 0 (calls.Put 5 50) ++ to_end 0 ++ call 0 (calls.Remove 5) ++ to_end 0 ++ call 0 (calls.Get 5) ++ to_end 0)) [])
    ≡ []

-- versions and numbers end
abbrev pub LastVersion : Type 0
LastVersion =
    left_over
    (
    said 0 (events.End 13 (answers.Done 1 moves.Still))
    ∷ said 0 (events.End 9 (answers.Spent 1))
    ∷ said 0 (events.End 15 (answers.Queued 1))
    ∷ said 0 (events.End 7 (answers.Spent 1)) ∷ []
    )
    (entries (record_of (setting He 1 8 2 1 100 1) (call 0 (calls.Put 7 70) ++ to_end 0 ++ call 0 (calls.Put 7 71) ++ to_end 0 ++ call 0 (calls.Enqueue 5) ++ to_end 0 ++ call 0 (calls.Enqueue 6) ++ to_end 0)) [])
    ≡ []

-- so many calls of a seat, one after another, each with a row of its own
abbrev enqueues : ℕ → List Item
enqueues zero = []
enqueues (suc n) = call 0 (calls.Enqueue n) ++ to_end 0 ++ enqueues n

-- the rows of two claim words are all taken: a walk of two steps, twice
abbrev pub WalksReadWholeClaimWords : Type 0
WalksReadWholeClaimWords =
    left_over (said 0 (events.End 25 answers.Full) ∷ []) (entries (record_of (setting He 1 70 2 1 100 100) (enqueues 71)) []) ≡ []
