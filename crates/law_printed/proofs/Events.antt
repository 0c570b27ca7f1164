-- An event is one of a record of the version and the setting, where its numbers have the bits of their types, it names what the setting
-- has, and the version has it.
use Rattle.std.proofs.Common.{◌≡◌, ℕ, true, Option, None, Some, arith, nat_le}
use Rattle.std.proofs.lemmas.Bool.Decides.{nat_tests}
use Rattle.wfe_defs.proofs.Facts.{first_of}
use Rattle.law_printed.specs.lines.out.Sizes.{AnswerSized, CallSized, ClockSized, EventSized, SpanSized}
use Rattle.law_printed.specs.lines.records.Entry.{IsEvent}
use Rattle.law_printed.specs.lines.records.record_calls.Answers.{IsAnswer, IsClock}
use Rattle.law_printed.specs.lines.records.record_calls.Calls.{IsCall}
use Rattle.law_printed.specs.lines.records.record_words.Within.{IsGuard, IsRoot, IsShown, IsSpan}
use Rattle.law_printed.specs.Versions.{CallNames}
use Rattle.law_printed.specs.OfVersion.{HasAnswer, HasCall, HasEvent}
use Rattle.laws.specs.HistoryTable.{is_answer, is_guard, is_guarded, is_in_range, is_root, is_row_or_none}
use Rattle.wfe_defs.specs.declared.call.Answer.{Answer}
use Rattle.wfe_defs.specs.declared.call.Answer.TheVariants as answers
use Rattle.wfe_defs.specs.declared.call.Call.{Call}
use Rattle.wfe_defs.specs.declared.call.Call.TheVariants as calls
use Rattle.wfe_defs.specs.declared.call.ClockMove.{ClockMove}
use Rattle.wfe_defs.specs.declared.call.ClockMove.TheVariants as clocks
use Rattle.wfe_defs.specs.declared.event.Event.{Event}
use Rattle.wfe_defs.specs.declared.event.Event.TheVariants as events
use Rattle.wfe_defs.specs.declared.event.Guard.{Guard}
use Rattle.wfe_defs.specs.declared.event.Guard.TheVariants as guards
use Rattle.wfe_defs.specs.declared.event.Root.{Root}
use Rattle.wfe_defs.specs.declared.event.Root.TheVariants as roots
use Rattle.wfe_defs.specs.declared.lifetime.Interval.{Interval}
use Rattle.laws.specs.words.declared.config.Config.{Config}

-- the call of a Begin names what the setting has
abbrev pub BeginNames : Config → Event → Type 0
BeginNames config (events.Begin call) = CallNames config call
BeginNames config event = Unit {0}

guard_of : (config : Config) (guard : Guard) → is_guard config guard ≡ true → IsGuard config guard
guard_of config (guards.Helper seat) h = grind (arith, nat_tests)
guard_of config (guards.Index seat index) h = (grind (arith, nat_tests), grind (arith, nat_tests))
guard_of config (guards.Whole seat) h = grind (arith, nat_tests)

row_of : (config : Config) (slot : Option ℕ) → is_row_or_none config slot ≡ true → IsShown config slot
row_of config None h = tt
row_of config (Some slot) h = grind (arith, nat_tests)

span_of : (span : Option Interval) → SpanSized span → IsSpan span
span_of None h = tt
span_of (Some span) h = h

root_of : (config : Config) (root : Root) → is_root config root ≡ true → IsRoot config root
root_of config (roots.Bucket bucket) h = grind (arith, nat_tests)
root_of config roots.Head h = tt
root_of config roots.Tail h = tt
root_of config (roots.Next slot) h = grind (arith, nat_tests)

clock_of : (clock : ClockMove) → ClockSized clock → IsClock clock
clock_of clocks.Still h = tt
clock_of (clocks.Moved era) h = h
clock_of (clocks.Other seen) h = h
clock_of (clocks.EraSpent era) h = h

call_of : (version : ℕ) (config : Config) (call : Call) → CallSized call → CallNames config call → HasCall version call → IsCall version config call
call_of version config (calls.Get key) sized names has = sized
call_of version config (calls.Put key value) sized names has = sized
call_of version config (calls.Remove key) sized names has = sized
call_of version config (calls.Enqueue value) sized names has = sized
call_of version config calls.Dequeue sized names has = tt
call_of version config (calls.Hold key) sized names has = sized
call_of version config calls.Release sized names has = tt
call_of version config calls.Advance sized names has = tt
call_of version config calls.Scan sized names has = tt
call_of version config (calls.Copy from index) sized names has = (has, names.0, names.1)
call_of version config (calls.DropIndex index) sized names has = (has, names)
call_of version config (calls.Look index key) sized names has = (has, names, sized.1)
call_of version config (calls.PutIf key value number) sized names has = (has, sized.0, sized.1, sized.2)
call_of version config calls.Leave sized names has = has
call_of version config (calls.Adopt place) sized names has = (has, names)

answer_of : (version : ℕ) (config : Config) (answer : Answer) → AnswerSized answer → is_answer config answer ≡ true → HasAnswer version answer → IsAnswer version config answer
answer_of version config (answers.Got number value) sized told has = sized
answer_of version config (answers.Done number clock) sized told has = (sized.0, clock_of clock sized.1)
answer_of version config (answers.Absent number) sized told has = sized
answer_of version config answers.Full sized told has = tt
answer_of version config (answers.BucketFull number) sized told has = sized
answer_of version config (answers.Spent number) sized told has = sized
answer_of version config (answers.Queued number) sized told has = sized
answer_of version config (answers.Taken number value clock) sized told has = (sized.0, sized.1, clock_of clock sized.2)
answer_of version config answers.Empty sized told has = tt
answer_of version config (answers.Holding slot) sized told has = grind (arith, nat_tests)
answer_of version config answers.Nothing sized told has = tt
answer_of version config answers.Released sized told has = tt
answer_of version config (answers.Clock outcome) sized told has = clock_of outcome sized
answer_of version config (answers.Scanned kept back) sized told has = sized
answer_of version config (answers.Copied slot) sized told has = (has, grind (arith, nat_tests))
answer_of version config answers.Dropped sized told has = has
answer_of version config (answers.Looked slot number value) sized told has = (has, grind (arith, nat_tests), sized.1, sized.2)
answer_of version config (answers.Stale number) sized told has = (has, sized)
answer_of version config (answers.Left count) sized told has = (has, sized)
answer_of version config (answers.Adopted count) sized told has = (has, sized)
answer_of version config answers.NotLeft sized told has = has
answer_of version config answers.AdoptedBefore sized told has = has

pub event_of : (version : ℕ) (config : Config) (event : Event) → EventSized event → BeginNames config event → is_in_range config event ≡ true → is_guarded config event ≡ true → HasEvent version event → IsEvent version config event
event_of version config (events.Begin call) sized names told guarded has = call_of version config call sized names has
event_of version config (events.End steps answer) sized names told guarded has = (sized.0, answer_of version config answer sized.1 told has)
event_of version config (events.Era era) sized names told guarded has = sized
event_of version config (events.Reserve guard span) sized names told guarded has = (guard_of config guard guarded, span_of span sized.1)
event_of version config (events.Read guard span) sized names told guarded has = (guard_of config guard guarded, span_of span sized.1)
event_of version config (events.Hazard guard slot) sized names told guarded has = (has, guard_of config guard guarded, row_of config slot told)
event_of version config (events.Saw guard slot) sized names told guarded has = (has, guard_of config guard guarded, row_of config slot told)
event_of version config (events.Give slot birth) sized names told guarded has = (grind (arith, nat_tests), sized.1)
event_of version config (events.Unused slot) sized names told guarded has = grind (arith, nat_tests)
event_of version config (events.Link root slot) sized names told guarded has =
    (root_of config root (first_of (is_root config root) (nat_le slot config.slots) told), grind (arith, nat_tests))
event_of version config (events.Cut slot) sized names told guarded has = grind (arith, nat_tests)
event_of version config (events.Retire slot birth retire) sized names told guarded has = (grind (arith, nat_tests), sized.1, sized.2)
event_of version config (events.Back slot) sized names told guarded has = grind (arith, nat_tests)
event_of version config (events.Held index slot steps) sized names told guarded has = (grind (arith, nat_tests), grind (arith, nat_tests), sized.2)
event_of version config (events.Null index steps) sized names told guarded has = (grind (arith, nat_tests), sized.1)
event_of version config (events.Clear index slot) sized names told guarded has = (grind (arith, nat_tests), grind (arith, nat_tests))
event_of version config (events.Copied from index slot) sized names told guarded has = (has, grind (arith, nat_tests), grind (arith, nat_tests), grind (arith, nat_tests))
event_of version config (events.Put bucket number key value) sized names told guarded has = (grind (arith, nat_tests), sized.1, sized.2, sized.3)
event_of version config (events.Removed bucket number key) sized names told guarded has = (grind (arith, nat_tests), sized.1, sized.2)
event_of version config (events.Got bucket number key value) sized names told guarded has = (grind (arith, nat_tests), sized.1, sized.2, sized.3)
event_of version config (events.Queued number value) sized names told guarded has = sized
event_of version config (events.Taken number value) sized names told guarded has = sized
event_of version config (events.Left count) sized names told guarded has = (has, sized)
event_of version config (events.Adopted place count) sized names told guarded has = (has, grind (arith, nat_tests), sized.1)
