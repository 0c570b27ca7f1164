-- Events and settings whose numbers have at most 64 bits, as those of every value of the type do.
use Rattle.std.specs.Prelude.{◌<◌, ◌^◌, ℕ, Option, Some, None}
use Rattle.wfe_words.specs.declared.config.Config.{Config}
use Rattle.wfe_defs.specs.declared.lifetime.Interval.{Interval}
use Rattle.wfe_defs.specs.declared.event.Guard.{Guard}
use Rattle.wfe_defs.specs.declared.event.Guard.TheVariants as guards
use Rattle.wfe_defs.specs.declared.event.Root.{Root}
use Rattle.wfe_defs.specs.declared.event.Root.TheVariants as roots
use Rattle.wfe_defs.specs.declared.call.ClockMove.{ClockMove}
use Rattle.wfe_defs.specs.declared.call.ClockMove.TheVariants as clocks
use Rattle.wfe_defs.specs.declared.call.Call.{Call}
use Rattle.wfe_defs.specs.declared.call.Call.TheVariants as calls
use Rattle.wfe_defs.specs.declared.call.Answer.{Answer}
use Rattle.wfe_defs.specs.declared.call.Answer.TheVariants as answers
use Rattle.wfe_defs.specs.declared.event.Event.{Event}
use Rattle.wfe_defs.specs.declared.event.Event.TheVariants as events

abbrev pub NumberFits : ℕ → Type 0
NumberFits n = n < 2 ^ 64

abbrev pub GuardFits : Guard → Type 0
GuardFits (guards.Helper seat) = NumberFits seat
GuardFits (guards.Index seat index) = NumberFits seat × NumberFits index
GuardFits (guards.Whole seat) = NumberFits seat

abbrev pub SpanFits : Option Interval → Type 0
SpanFits None = Unit {0}
SpanFits (Some span) = NumberFits span.lo × NumberFits span.hi

abbrev pub ValueFits : Option ℕ → Type 0
ValueFits None = Unit {0}
ValueFits (Some value) = NumberFits value

abbrev pub RootFits : Root → Type 0
RootFits (roots.Bucket bucket) = NumberFits bucket
RootFits roots.Head = Unit {0}
RootFits roots.Tail = Unit {0}
RootFits (roots.Next slot) = NumberFits slot

abbrev pub ClockFits : ClockMove → Type 0
ClockFits clocks.Still = Unit {0}
ClockFits (clocks.Moved era) = NumberFits era
ClockFits (clocks.Other seen) = NumberFits seen
ClockFits (clocks.EraSpent era) = NumberFits era

abbrev pub CallFits : Call → Type 0
CallFits (calls.Get key) = NumberFits key
CallFits (calls.Put key value) = NumberFits key × NumberFits value
CallFits (calls.Remove key) = NumberFits key
CallFits (calls.Enqueue value) = NumberFits value
CallFits calls.Dequeue = Unit {0}
CallFits (calls.Hold key) = NumberFits key
CallFits calls.Release = Unit {0}
CallFits calls.Advance = Unit {0}
CallFits calls.Scan = Unit {0}
CallFits (calls.Copy from index) = NumberFits from × NumberFits index
CallFits (calls.DropIndex index) = NumberFits index
CallFits (calls.Look index key) = NumberFits index × NumberFits key
CallFits (calls.PutIf key value version) = NumberFits key × NumberFits value × NumberFits version
CallFits calls.Leave = Unit {0}
CallFits (calls.Adopt place) = NumberFits place

abbrev pub AnswerFits : Answer → Type 0
AnswerFits (answers.Got version value) = NumberFits version × ValueFits value
AnswerFits (answers.Done version clock) = NumberFits version × ClockFits clock
AnswerFits (answers.Absent version) = NumberFits version
AnswerFits answers.Full = Unit {0}
AnswerFits (answers.BucketFull version) = NumberFits version
AnswerFits (answers.Spent number) = NumberFits number
AnswerFits (answers.Queued number) = NumberFits number
AnswerFits (answers.Taken number value clock) = NumberFits number × NumberFits value × ClockFits clock
AnswerFits answers.Empty = Unit {0}
AnswerFits (answers.Holding slot) = NumberFits slot
AnswerFits answers.Nothing = Unit {0}
AnswerFits answers.Released = Unit {0}
AnswerFits (answers.Clock outcome) = ClockFits outcome
AnswerFits (answers.Scanned kept back) = NumberFits kept × NumberFits back
AnswerFits (answers.Copied slot) = NumberFits slot
AnswerFits answers.Dropped = Unit {0}
AnswerFits (answers.Looked slot version value) = NumberFits slot × NumberFits version × ValueFits value
AnswerFits (answers.Stale version) = NumberFits version
AnswerFits (answers.Left count) = NumberFits count
AnswerFits (answers.Adopted count) = NumberFits count
AnswerFits answers.NotLeft = Unit {0}
AnswerFits answers.AdoptedBefore = Unit {0}

-- each number of the event has at most 64 bits
abbrev pub EventFits : Event → Type 0
EventFits (events.Begin call) = CallFits call
EventFits (events.End steps answer) = NumberFits steps × AnswerFits answer
EventFits (events.Era era) = NumberFits era
EventFits (events.Reserve guard span) = GuardFits guard × SpanFits span
EventFits (events.Read guard span) = GuardFits guard × SpanFits span
EventFits (events.Hazard guard slot) = GuardFits guard × ValueFits slot
EventFits (events.Saw guard slot) = GuardFits guard × ValueFits slot
EventFits (events.Give slot birth) = NumberFits slot × NumberFits birth
EventFits (events.Unused slot) = NumberFits slot
EventFits (events.Link root slot) = RootFits root × NumberFits slot
EventFits (events.Cut slot) = NumberFits slot
EventFits (events.Retire slot birth retire) = NumberFits slot × NumberFits birth × NumberFits retire
EventFits (events.Back slot) = NumberFits slot
EventFits (events.Held index slot steps) = NumberFits index × NumberFits slot × NumberFits steps
EventFits (events.Null index steps) = NumberFits index × NumberFits steps
EventFits (events.Clear index slot) = NumberFits index × NumberFits slot
EventFits (events.Copied from index slot) = NumberFits from × NumberFits index × NumberFits slot
EventFits (events.Put bucket version key value) = NumberFits bucket × NumberFits version × NumberFits key × NumberFits value
EventFits (events.Removed bucket version key) = NumberFits bucket × NumberFits version × NumberFits key
EventFits (events.Got bucket version key value) = NumberFits bucket × NumberFits version × NumberFits key × ValueFits value
EventFits (events.Queued number value) = NumberFits number × NumberFits value
EventFits (events.Taken number value) = NumberFits number × NumberFits value
EventFits (events.Left count) = NumberFits count
EventFits (events.Adopted place count) = NumberFits place × NumberFits count

-- each number that a header tells of the setting has at most 64 bits
pub record ConfigFits (config : Config) : Type 0 where
  pub seats : NumberFits config.seats
  pub indexes : NumberFits config.indexes
  pub slots : NumberFits config.slots
  pub buckets : NumberFits config.buckets
  pub tries : NumberFits config.tries
  pub every : NumberFits config.every
  pub last_era : NumberFits config.last_era
  pub last_version : NumberFits config.last_version
