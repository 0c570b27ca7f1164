-- Events whose numbers have the bits of their types, as those of every value have.
use Rattle.std.specs.Prelude.{◌<◌, ℕ, List, [], ◌∷◌, Option, Some, None}
use Rattle.wfe_outside.specs.defs.declared.call.Answer.{Answer}
use Rattle.wfe_outside.specs.defs.declared.call.Answer.TheVariants as answers
use Rattle.wfe_outside.specs.defs.declared.call.Call.{Call}
use Rattle.wfe_outside.specs.defs.declared.call.Call.TheVariants as calls
use Rattle.wfe_outside.specs.defs.declared.call.ClockMove.{ClockMove}
use Rattle.wfe_outside.specs.defs.declared.call.ClockMove.TheVariants as clocks
use Rattle.wfe_outside.specs.defs.declared.event.Event.{Event}
use Rattle.wfe_outside.specs.defs.declared.event.Event.TheVariants as events
use Rattle.wfe_outside.specs.defs.declared.event.Guard.{Guard}
use Rattle.wfe_outside.specs.defs.declared.event.Guard.TheVariants as guards
use Rattle.wfe_outside.specs.defs.declared.event.Root.{Root}
use Rattle.wfe_outside.specs.defs.declared.event.Root.TheVariants as roots
use Rattle.wfe_outside.specs.defs.declared.lifetime.Interval.{Interval}
use Rattle.wfe_trace.specs.Fits.{NumberFits, ValueFits}
use Rattle.wfe_server_out.specs.Pieces.{Piece, Text, Told}

-- a number of 32 bits
abbrev pub ShortFits : ℕ → Type 0
ShortFits n = n < 4294967296

abbrev pub GuardSized : Guard → Type 0
GuardSized (guards.Helper seat) = ShortFits seat
GuardSized (guards.Index seat index) = ShortFits seat × ShortFits index
GuardSized (guards.Whole seat) = ShortFits seat

abbrev pub SpanSized : Option Interval → Type 0
SpanSized None = Unit {0}
SpanSized (Some span) = ShortFits span.lo × ShortFits span.hi

abbrev pub RowSized : Option ℕ → Type 0
RowSized None = Unit {0}
RowSized (Some slot) = ShortFits slot

abbrev pub RootSized : Root → Type 0
RootSized (roots.Bucket bucket) = ShortFits bucket
RootSized roots.Head = Unit {0}
RootSized roots.Tail = Unit {0}
RootSized (roots.Next slot) = ShortFits slot

abbrev pub ClockSized : ClockMove → Type 0
ClockSized clocks.Still = Unit {0}
ClockSized (clocks.Moved era) = ShortFits era
ClockSized (clocks.Other seen) = ShortFits seen
ClockSized (clocks.EraSpent era) = ShortFits era

abbrev pub CallSized : Call → Type 0
CallSized (calls.Get key) = NumberFits key
CallSized (calls.Put key value) = NumberFits key × NumberFits value
CallSized (calls.Remove key) = NumberFits key
CallSized (calls.Enqueue value) = NumberFits value
CallSized calls.Dequeue = Unit {0}
CallSized (calls.Hold key) = NumberFits key
CallSized calls.Release = Unit {0}
CallSized calls.Advance = Unit {0}
CallSized calls.Scan = Unit {0}
CallSized (calls.Copy from index) = ShortFits from × ShortFits index
CallSized (calls.DropIndex index) = ShortFits index
CallSized (calls.Look index key) = ShortFits index × NumberFits key
CallSized (calls.PutIf key value version) = NumberFits key × NumberFits value × NumberFits version
CallSized calls.Leave = Unit {0}
CallSized (calls.Adopt place) = ShortFits place

abbrev pub AnswerSized : Answer → Type 0
AnswerSized (answers.Got version value) = NumberFits version × ValueFits value
AnswerSized (answers.Done version clock) = NumberFits version × ClockSized clock
AnswerSized (answers.Absent version) = NumberFits version
AnswerSized answers.Full = Unit {0}
AnswerSized (answers.BucketFull version) = NumberFits version
AnswerSized (answers.Spent number) = NumberFits number
AnswerSized (answers.Queued number) = NumberFits number
AnswerSized (answers.Taken number value clock) = NumberFits number × NumberFits value × ClockSized clock
AnswerSized answers.Empty = Unit {0}
AnswerSized (answers.Holding slot) = ShortFits slot
AnswerSized answers.Nothing = Unit {0}
AnswerSized answers.Released = Unit {0}
AnswerSized (answers.Clock outcome) = ClockSized outcome
AnswerSized (answers.Scanned kept back) = ShortFits kept × ShortFits back
AnswerSized (answers.Copied slot) = ShortFits slot
AnswerSized answers.Dropped = Unit {0}
AnswerSized (answers.Looked slot version value) = ShortFits slot × NumberFits version × ValueFits value
AnswerSized (answers.Stale version) = NumberFits version
AnswerSized (answers.Left count) = ShortFits count
AnswerSized (answers.Adopted count) = ShortFits count
AnswerSized answers.NotLeft = Unit {0}
AnswerSized answers.AdoptedBefore = Unit {0}

-- each number of the event has the bits of its type: 32 for seats, indexes, slots, buckets, eras and counts of rows, 64 for all else
abbrev pub EventSized : Event → Type 0
EventSized (events.Begin call) = CallSized call
EventSized (events.End steps answer) = NumberFits steps × AnswerSized answer
EventSized (events.Era era) = ShortFits era
EventSized (events.Reserve guard span) = GuardSized guard × SpanSized span
EventSized (events.Read guard span) = GuardSized guard × SpanSized span
EventSized (events.Hazard guard slot) = GuardSized guard × RowSized slot
EventSized (events.Saw guard slot) = GuardSized guard × RowSized slot
EventSized (events.Give slot birth) = ShortFits slot × ShortFits birth
EventSized (events.Unused slot) = ShortFits slot
EventSized (events.Link root slot) = RootSized root × ShortFits slot
EventSized (events.Cut slot) = ShortFits slot
EventSized (events.Retire slot birth retire) = ShortFits slot × ShortFits birth × ShortFits retire
EventSized (events.Back slot) = ShortFits slot
EventSized (events.Held index slot steps) = ShortFits index × ShortFits slot × NumberFits steps
EventSized (events.Null index steps) = ShortFits index × NumberFits steps
EventSized (events.Clear index slot) = ShortFits index × ShortFits slot
EventSized (events.Copied from index slot) = ShortFits from × ShortFits index × ShortFits slot
EventSized (events.Put bucket version key value) = ShortFits bucket × NumberFits version × NumberFits key × NumberFits value
EventSized (events.Removed bucket version key) = ShortFits bucket × NumberFits version × NumberFits key
EventSized (events.Got bucket version key value) = ShortFits bucket × NumberFits version × NumberFits key × ValueFits value
EventSized (events.Queued number value) = NumberFits number × NumberFits value
EventSized (events.Taken number value) = NumberFits number × NumberFits value
EventSized (events.Left count) = ShortFits count
EventSized (events.Adopted place count) = ShortFits place × ShortFits count

-- so it is with each event that pieces tell
abbrev pub AreSized : List Piece → Type 0
AreSized [] = Unit {0}
AreSized (Text bytes ∷ ps) = AreSized ps
AreSized (Told x ∷ ps) = EventSized x.event × AreSized ps
