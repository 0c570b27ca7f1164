-- An event is read back from its words.
use Rattle.std.proofs.Common.{◌≡◌, ◌++◌, ℕ, List, [], ◌∷◌, true, Option, Some, None, codes, refl, arith, append_assoc}
use Rattle.std.specs.Fmt.{decimal}
use Rattle.std.proofs.lemmas.Bool.Decides.{nat_tests}
use Rattle.wfe_defs.specs.declared.lifetime.Interval.{Interval}
use Rattle.wfe_defs.specs.declared.event.Guard.{Guard}
use Rattle.wfe_defs.specs.declared.event.Guard.TheVariants as guards
use Rattle.wfe_defs.specs.declared.event.Root.{Root}
use Rattle.wfe_defs.specs.declared.event.Root.TheVariants as roots
use Rattle.wfe_defs.specs.declared.call.ClockMove.{ClockMove}
use Rattle.wfe_defs.specs.declared.call.ClockMove.TheVariants as clocks
use Rattle.wfe_defs.specs.declared.call.Call.{Call}
use Rattle.wfe_defs.specs.declared.call.Call.TheVariants as calls
use Rattle.wfe_defs.specs.declared.call.Answer.{Answer}
use Rattle.wfe_defs.specs.declared.call.Answer.TheVariants as answers
use Rattle.wfe_defs.specs.declared.event.Event.{Event}
use Rattle.wfe_defs.specs.declared.event.Event.TheVariants as events
use Rattle.wfe_text.specs.Fits.{GuardFits, SpanFits, ValueFits, RootFits, ClockFits, CallFits, AnswerFits, EventFits}
use Rattle.wfe_text.specs.Record.{guard_word, span_words, value_words, root_word, clock_words, call_words, answer_words, event_words}
use Rattle.wfe_text.proofs.Decimals.{number_in-decimal as read, lacks, lacks-decimal}
use Rattle.wfe_text.proofs.EventReader.{before, after, guard_in, root_in, value_from, span_from, clock_from, call_from, answer_from, event_from}

before-at : (b : ℕ) (w v : List ℕ) → lacks b w ≡ true → before b (w ++ b ∷ v) ≡ w
before-at b [] v none = grind (arith, nat_tests)
before-at b (c ∷ w) v none = grind (arith, nat_tests, before-at b w v)

after-at : (b : ℕ) (w v : List ℕ) → lacks b w ≡ true → after b (w ++ b ∷ v) ≡ v
after-at b [] v none = grind (arith, nat_tests)
after-at b (c ∷ w) v none = grind (arith, nat_tests, after-at b w v)

guard-read : (guard : Guard) → GuardFits guard → guard_in (guard_word guard) ≡ Some guard
guard-read (guards.Helper seat) fits = rw (read seat fits) refl
guard-read (guards.Index seat index) fits =
    let apart : lacks 46 (decimal seat) ≡ true = lacks-decimal 46 seat (omega arith) fits.0 in
    rw (append_assoc (decimal seat) (codes ".") (decimal index), before-at 46 (decimal seat) (decimal index) apart, after-at 46 (decimal seat) (decimal index) apart, read seat fits.0, read index fits.1) refl
guard-read (guards.Whole seat) fits = rw (read seat fits) refl

root-read : (root : Root) → RootFits root → root_in (root_word root) ≡ Some root
root-read (roots.Bucket bucket) fits = rw (read bucket fits) refl
root-read roots.Head fits = refl
root-read roots.Tail fits = refl
root-read (roots.Next slot) fits = rw (read slot fits) refl

value-read : (value : Option ℕ) → ValueFits value → value_from (value_words value) ≡ Some value
value-read None fits = refl
value-read (Some value) fits = rw (read value fits) refl

span-read : (span : Option Interval) → SpanFits span → span_from (span_words span) ≡ Some span
span-read None fits = refl
span-read (Some span) fits = rw (read span.lo fits.0, read span.hi fits.1) refl

clock-read : (clock : ClockMove) → ClockFits clock → clock_from (clock_words clock) ≡ Some clock
clock-read clocks.Still fits = refl
clock-read (clocks.Moved era) fits = rw (read era fits) refl
clock-read (clocks.Other seen) fits = rw (read seen fits) refl
clock-read (clocks.EraSpent era) fits = rw (read era fits) refl

call-read : (call : Call) → CallFits call → call_from (call_words call) ≡ Some call
call-read (calls.Get key) fits = rw (read key fits) refl
call-read (calls.Put key value) fits = rw (read key fits.0, read value fits.1) refl
call-read (calls.Remove key) fits = rw (read key fits) refl
call-read (calls.Enqueue value) fits = rw (read value fits) refl
call-read calls.Dequeue fits = refl
call-read (calls.Hold key) fits = rw (read key fits) refl
call-read calls.Release fits = refl
call-read calls.Advance fits = refl
call-read calls.Scan fits = refl
call-read (calls.Copy from index) fits = rw (read from fits.0, read index fits.1) refl
call-read (calls.DropIndex index) fits = rw (read index fits) refl
call-read (calls.Look index key) fits = rw (read index fits.0, read key fits.1) refl
call-read (calls.PutIf key value version) fits = rw (read key fits.0, read value fits.1, read version fits.2) refl
call-read calls.Leave fits = refl
call-read (calls.Adopt place) fits = rw (read place fits) refl

moved-read : (clock : ClockMove) → ClockFits clock → answer_from (clock_words clock) ≡ Some (answers.Clock clock)
moved-read clocks.Still fits = refl
moved-read (clocks.Moved era) fits = rw (read era fits) refl
moved-read (clocks.Other seen) fits = rw (read seen fits) refl
moved-read (clocks.EraSpent era) fits = rw (read era fits) refl

answer-read : (answer : Answer) → AnswerFits answer → answer_from (answer_words answer) ≡ Some answer
answer-read (answers.Got version value) fits = rw (read version fits.0, value-read value fits.1) refl
answer-read (answers.Done version clock) fits = rw (read version fits.0, clock-read clock fits.1) refl
answer-read (answers.Absent version) fits = rw (read version fits) refl
answer-read answers.Full fits = refl
answer-read (answers.BucketFull version) fits = rw (read version fits) refl
answer-read (answers.Spent number) fits = rw (read number fits) refl
answer-read (answers.Queued number) fits = rw (read number fits) refl
answer-read (answers.Taken number value clock) fits = rw (read number fits.0, read value fits.1, clock-read clock fits.2) refl
answer-read answers.Empty fits = refl
answer-read (answers.Holding slot) fits = rw (read slot fits) refl
answer-read answers.Nothing fits = refl
answer-read answers.Released fits = refl
answer-read (answers.Clock outcome) fits = moved-read outcome fits
answer-read (answers.Scanned kept back) fits = rw (read kept fits.0, read back fits.1) refl
answer-read (answers.Copied slot) fits = rw (read slot fits) refl
answer-read answers.Dropped fits = refl
answer-read (answers.Looked slot version value) fits = rw (read slot fits.0, read version fits.1, value-read value fits.2) refl
answer-read (answers.Stale version) fits = rw (read version fits) refl
answer-read (answers.Left count) fits = rw (read count fits) refl
answer-read (answers.Adopted count) fits = rw (read count fits) refl
answer-read answers.NotLeft fits = refl
answer-read answers.AdoptedBefore fits = refl

pub event-read : (event : Event) → EventFits event → event_from (event_words event) ≡ Some event
event-read (events.Begin call) fits = rw (call-read call fits) refl
event-read (events.End steps answer) fits = rw (read steps fits.0, answer-read answer fits.1) refl
event-read (events.Era era) fits = rw (read era fits) refl
event-read (events.Reserve guard span) fits = rw (guard-read guard fits.0, span-read span fits.1) refl
event-read (events.Read guard span) fits = rw (guard-read guard fits.0, span-read span fits.1) refl
event-read (events.Hazard guard slot) fits = rw (guard-read guard fits.0, value-read slot fits.1) refl
event-read (events.Saw guard slot) fits = rw (guard-read guard fits.0, value-read slot fits.1) refl
event-read (events.Give slot birth) fits = rw (read slot fits.0, read birth fits.1) refl
event-read (events.Unused slot) fits = rw (read slot fits) refl
event-read (events.Link root slot) fits = rw (root-read root fits.0, read slot fits.1) refl
event-read (events.Cut slot) fits = rw (read slot fits) refl
event-read (events.Retire slot birth retire) fits = rw (read slot fits.0, read birth fits.1, read retire fits.2) refl
event-read (events.Back slot) fits = rw (read slot fits) refl
event-read (events.Held index slot steps) fits = rw (read index fits.0, read slot fits.1, read steps fits.2) refl
event-read (events.Null index steps) fits = rw (read index fits.0, read steps fits.1) refl
event-read (events.Clear index slot) fits = rw (read index fits.0, read slot fits.1) refl
event-read (events.Copied from index slot) fits = rw (read from fits.0, read index fits.1, read slot fits.2) refl
event-read (events.Put bucket version key value) fits = rw (read bucket fits.0, read version fits.1, read key fits.2, read value fits.3) refl
event-read (events.Removed bucket version key) fits = rw (read bucket fits.0, read version fits.1, read key fits.2) refl
event-read (events.Got bucket version key value) fits = rw (read bucket fits.0, read version fits.1, read key fits.2, value-read value fits.3) refl
event-read (events.Queued number value) fits = rw (read number fits.0, read value fits.1) refl
event-read (events.Taken number value) fits = rw (read number fits.0, read value fits.1) refl
event-read (events.Left count) fits = rw (read count fits) refl
event-read (events.Adopted place count) fits = rw (read place fits.0, read count fits.1) refl
