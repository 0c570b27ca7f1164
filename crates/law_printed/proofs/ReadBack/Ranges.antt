-- The numbers of a record's lines have 64 bits.
use Rattle.std.proofs.Common.{ℕ, ◌≡◌, Option, None, Some, arith, rules}
use Rattle.std.proofs.lemmas.Bool.Decides.{nat_tests}
use Rattle.laws.specs.words.declared.config.Config.{Config}
use Rattle.laws.specs.words.Config.{bad_field}
use Rattle.laws.specs.defs.declared.lifetime.Interval.{Interval}
use Rattle.laws.specs.defs.declared.event.Guard.{Guard}
use Rattle.laws.specs.defs.declared.event.Root.{Root}
use Rattle.laws.specs.defs.declared.call.ClockMove.{ClockMove}
use Rattle.laws.specs.defs.declared.call.Call.{Call}
use Rattle.laws.specs.defs.declared.call.Answer.{Answer}
use Rattle.laws.specs.defs.declared.event.Event.{Event}
use Rattle.wfe_trace.specs.Fits.{NumberFits, GuardFits, SpanFits, ValueFits, RootFits, ClockFits, CallFits, AnswerFits, EventFits}
use Rattle.wfe_check_lines.specs.records.Entry.{IsEvent}
use Rattle.wfe_check_lines.specs.records.record_calls.Answers.{IsAnswer, IsClock}
use Rattle.wfe_check_lines.specs.records.record_calls.Calls.{IsCall}
use Rattle.wfe_check_lines.specs.records.record_words.Within.{IsBucket, IsGuard, IsIndex, IsRoot, IsSeat, IsShort, IsShown, IsSlot, IsSpan, Small}
use Rattle.wfe_check_lines.specs.Texts.{IsCounted}

-- a setting in its ranges has small numbers
pub small_in_range : (config : Config) → bad_field config ≡ None → Small config
small_in_range config good = record { seats = grind (arith, nat_tests); indexes = grind (arith, nat_tests); slots = grind (arith, nat_tests); buckets = grind (arith, nat_tests) }

short_fits : (n : ℕ) → IsShort n → NumberFits n
short_fits n is = omega arith

clock_fits : (clock : ClockMove) → IsClock clock → ClockFits clock
clock_fits clock is = search (rules, short_fits)

span_fits : (span : Option Interval) → IsSpan span → SpanFits span
span_fits span is = search (rules, short_fits)

module _ (config : Config) (small : Small config) where
  pub seat_fits : (n : ℕ) → IsSeat config n → NumberFits n
  seat_fits n is = let l = small.seats in omega arith

  index_fits : (n : ℕ) → IsIndex config n → NumberFits n
  index_fits n is = let l = small.indexes in omega arith

  slot_fits : (n : ℕ) → IsSlot config n → NumberFits n
  slot_fits n is = let l = small.slots in omega arith

  bucket_fits : (n : ℕ) → IsBucket config n → NumberFits n
  bucket_fits n is = let l = small.buckets in omega arith

  row_fits : (slot : Option ℕ) → IsShown config slot → ValueFits slot
  row_fits slot is = search (rules, slot_fits)

  guard_fits : (guard : Guard) → IsGuard config guard → GuardFits guard
  guard_fits guard is = search (rules, seat_fits, index_fits)

  root_fits : (root : Root) → IsRoot config root → RootFits root
  root_fits root is = search (rules, bucket_fits, slot_fits)

  call_fits : (version : ℕ) (call : Call) → IsCall version config call → CallFits call
  call_fits version call is = search (rules, seat_fits, index_fits)

  answer_fits : (version : ℕ) (answer : Answer) → IsAnswer version config answer → AnswerFits answer
  answer_fits version answer is = search (rules, short_fits, slot_fits, clock_fits)

  pub event_fits : (version : ℕ) (event : Event) → IsEvent version config event → EventFits event
  event_fits version event is = search (rules, short_fits, seat_fits, index_fits, slot_fits, bucket_fits, guard_fits, row_fits, span_fits, root_fits, call_fits version, answer_fits version)

pub counted_fits : (seat : Option ℕ) → IsCounted seat → ValueFits seat
counted_fits None is = tt
counted_fits (Some seat) is = is
