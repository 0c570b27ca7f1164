-- Calls on the queue.
use Rattle.std.specs.Prelude.{None, ◌≡◌, [], ◌∷◌, ◌++◌}
use Rattle.wfe_core.specs.words.declared.config.SchemeKind.TheVariants.{He}
use Rattle.wfe_core.specs.defs.declared.call.Answer.TheVariants as answers
use Rattle.wfe_core.specs.defs.declared.call.Call.TheVariants as calls
use Rattle.wfe_core.specs.defs.declared.call.ClockMove.TheVariants as moves
use Rattle.wfe_core.specs.defs.declared.event.Event.TheVariants as events
use Rattle.wfe_core.specs.defs.declared.event.Guard.TheVariants as guards
use Rattle.wfe_core.specs.defs.declared.event.Root.TheVariants as roots
use Rattle.model_record.specs.Record.{tells_of}
use Rattle.model_record.specs.Record.Past.{Start}
use Rattle.wfe_core.specs.Guards.{from_to}
use Rattle.model_history.specs.History.{record_of, times}
use Rattle.model_history.specs.Among.{call, to_end, said, setting, entries, left_over}

-- the queue is empty
abbrev pub DequeueOfNothing : Type 0
DequeueOfNothing =
    record_of (setting He 1 8 2 1 100 100) (call 0 calls.Dequeue ++ to_end 0)
    ≡ tells_of Start 0 (
    events.Begin calls.Dequeue
    ∷ events.Reserve (guards.Index 0 0) (from_to 1 1)
    ∷ events.Held 0 8 4
    ∷ events.Reserve (guards.Index 0 1) (from_to 1 1)
    ∷ events.Null 1 4
    ∷ events.Reserve (guards.Index 0 1) None
    ∷ events.Clear 0 8
    ∷ events.Reserve (guards.Index 0 0) None
    ∷ events.End 11 answers.Empty ∷ [])

-- another dequeue takes the row that this one follows
abbrev pub HeadMovesUnderADequeue : Type 0
HeadMovesUnderADequeue =
    left_over
    (
    said 0 (events.End 15 (answers.Queued 1))
    ∷ said 0 (events.End 15 (answers.Queued 2))
    ∷ said 1 (events.Held 0 8 4)
    ∷ said 0 (events.Held 1 0 5)
    ∷ said 0 (events.Link roots.Head 0)
    ∷ said 0 (events.Cut 8)
    ∷ said 0 (events.Taken 1 5)
    ∷ said 0 (events.Retire 8 1 1)
    ∷ said 0 (events.End 26 (answers.Taken 1 5 (moves.Moved 2)))
    ∷ said 1 (events.Reserve (guards.Index 1 1) (from_to 2 2))
    ∷ said 1 (events.Clear 0 8)
    ∷ said 1 (events.Held 0 0 4)
    ∷ said 1 (events.Held 1 1 5)
    ∷ said 1 (events.Taken 2 6)
    ∷ said 1 (events.Retire 0 1 2)
    ∷ said 1 (events.Back 0)
    ∷ said 1 (events.End 42 (answers.Taken 2 6 (moves.Moved 3))) ∷ []
    )
    (entries (record_of (setting He 2 8 2 1 100 100) (call 0 (calls.Enqueue 5) ++ to_end 0 ++ call 0 (calls.Enqueue 6) ++ to_end 0 ++ call 1 calls.Dequeue ++ times 8 1 ++ call 0 calls.Dequeue ++ to_end 0 ++ to_end 1)) [])
    ≡ []
