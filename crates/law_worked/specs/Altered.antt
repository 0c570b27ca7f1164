-- Lines with another number.
use Rattle.std.specs.Prelude.{ℕ, ◌+◌, List, [], ◌∷◌, Option, Some, None}
use Rattle.wfe_core.specs.defs.Entry.{Entry}
use Rattle.wfe_core.specs.defs.declared.call.Answer.{Answer}
use Rattle.wfe_core.specs.defs.declared.call.Answer.TheVariants as answers
use Rattle.wfe_core.specs.defs.declared.call.Call.{Call}
use Rattle.wfe_core.specs.defs.declared.call.Call.TheVariants as calls
use Rattle.wfe_core.specs.defs.declared.call.ClockMove.{ClockMove}
use Rattle.wfe_core.specs.defs.declared.call.ClockMove.TheVariants as moves
use Rattle.wfe_core.specs.defs.declared.event.Event.{Event}
use Rattle.wfe_core.specs.defs.declared.event.Event.TheVariants as events
use Rattle.wfe_core.specs.defs.declared.lifetime.Interval.{Interval}
use Rattle.wfe_core.specs.Guards.{from_to}

-- a call with the next key, value, index, version or seat, or of another kind
abbrev pub other_call : Call → Call
other_call (calls.Get key) = calls.Get (key + 1)
other_call (calls.Put key value) = calls.Put key (value + 1)
other_call (calls.Remove key) = calls.Remove (key + 1)
other_call (calls.Enqueue value) = calls.Enqueue (value + 1)
other_call calls.Dequeue = calls.Scan
other_call (calls.Hold key) = calls.Get key
other_call calls.Release = calls.Advance
other_call calls.Advance = calls.Scan
other_call calls.Scan = calls.Advance
other_call (calls.Copy from index) = calls.Copy from (index + 1)
other_call (calls.DropIndex index) = calls.DropIndex (index + 1)
other_call (calls.Look index key) = calls.Look index (key + 1)
other_call (calls.PutIf key value version) = calls.PutIf key value (version + 1)
other_call calls.Leave = calls.Scan
other_call (calls.Adopt place) = calls.Adopt (place + 1)

abbrev pub other_clock : ClockMove → ClockMove
other_clock moves.Still = moves.Moved 2
other_clock (moves.Moved era) = moves.Moved (era + 1)
other_clock (moves.Other seen) = moves.Other (seen + 1)
other_clock (moves.EraSpent era) = moves.Moved era

-- an answer with its last number raised by one, or of another kind
abbrev pub other_answer : Answer → Answer
other_answer (answers.Got version value) = answers.Got (version + 1) value
other_answer (answers.Done version clock) = answers.Done version (other_clock clock)
other_answer (answers.Absent version) = answers.Absent (version + 1)
other_answer answers.Full = answers.BucketFull 1
other_answer (answers.BucketFull version) = answers.BucketFull (version + 1)
other_answer (answers.Spent number) = answers.Spent (number + 1)
other_answer (answers.Queued number) = answers.Queued (number + 1)
other_answer (answers.Taken number value clock) = answers.Taken number (value + 1) clock
other_answer answers.Empty = answers.Nothing
other_answer (answers.Holding slot) = answers.Holding (slot + 1)
other_answer answers.Nothing = answers.Empty
other_answer answers.Released = answers.Nothing
other_answer (answers.Clock outcome) = answers.Clock (other_clock outcome)
other_answer (answers.Scanned kept back) = answers.Scanned kept (back + 1)
other_answer (answers.Copied slot) = answers.Copied (slot + 1)
other_answer answers.Dropped = answers.Released
other_answer (answers.Looked slot version value) = answers.Looked slot (version + 1) value
other_answer (answers.Stale version) = answers.Stale (version + 1)
other_answer (answers.Left count) = answers.Left (count + 1)
other_answer (answers.Adopted count) = answers.Adopted (count + 1)
other_answer answers.NotLeft = answers.AdoptedBefore
other_answer answers.AdoptedBefore = answers.NotLeft

-- the next era, or the first where there is none
abbrev pub other_span : Option Interval → Option Interval
other_span None = from_to 1 1
other_span (Some span) = from_to (span.lo + 1) (span.hi + 1)

-- the next row, or the first where there is none
abbrev pub other_row : Option ℕ → Option ℕ
other_row None = Some 0
other_row (Some slot) = Some (slot + 1)

-- an event with its row, version, number, era or count raised by one
abbrev pub other_event : Event → Event
other_event (events.Begin call) = events.Begin (other_call call)
other_event (events.End steps answer) = events.End steps (other_answer answer)
other_event (events.Era era) = events.Era (era + 1)
other_event (events.Reserve guard span) = events.Reserve guard (other_span span)
other_event (events.Read guard span) = events.Read guard (other_span span)
other_event (events.Hazard guard slot) = events.Hazard guard (other_row slot)
other_event (events.Saw guard slot) = events.Saw guard (other_row slot)
other_event (events.Give slot birth) = events.Give (slot + 1) birth
other_event (events.Unused slot) = events.Unused (slot + 1)
other_event (events.Link root slot) = events.Link root (slot + 1)
other_event (events.Cut slot) = events.Cut (slot + 1)
other_event (events.Retire slot birth retire) = events.Retire slot birth (retire + 1)
other_event (events.Back slot) = events.Back (slot + 1)
other_event (events.Held index slot steps) = events.Held index (slot + 1) steps
other_event (events.Null index steps) = events.Held index 0 steps
other_event (events.Clear index slot) = events.Clear index (slot + 1)
other_event (events.Copied from index slot) = events.Copied from index (slot + 1)
other_event (events.Put bucket version key value) = events.Put bucket version key (value + 1)
other_event (events.Removed bucket version key) = events.Removed bucket (version + 1) key
other_event (events.Got bucket version key value) = events.Got bucket (version + 1) key value
other_event (events.Queued number value) = events.Queued (number + 1) value
other_event (events.Taken number value) = events.Taken number (value + 1)
other_event (events.Left count) = events.Left (count + 1)
other_event (events.Adopted place count) = events.Adopted place (count + 1)

-- the line has another number
abbrev pub altered : List Entry → List Entry
altered [] = []
altered (x ∷ xs) = record { seat = x.seat; event = other_event x.event } ∷ xs

-- a protection or a call with so many steps more
abbrev pub slower_event : Event → Event
slower_event (events.End steps answer) = events.End (steps + 15) answer
slower_event (events.Held index slot steps) = events.Held index slot (steps + 15)
slower_event (events.Null index steps) = events.Null index (steps + 15)
slower_event event = event

-- the line tells more steps, if it tells any
abbrev pub slowed : List Entry → List Entry
slowed [] = []
slowed (x ∷ xs) = record { seat = x.seat; event = slower_event x.event } ∷ xs
