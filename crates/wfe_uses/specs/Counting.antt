-- What threads make of a key that they count up, by the calls in their seats' logs, and what the closed table shows of it.
use Rattle.std.specs.Prelude.{List, None, Option, Some, [], count_by, length, map, suc, sum_by, true, zero, ℕ, ◌%◌, ◌+◌, ◌∷◌, ◌≡◌}
use Rattle.wfe_core.specs.Desks.{Notes}
use Rattle.wfe_core.specs.Locals.{Group}
use Rattle.wfe_core.specs.defs.Pairs.{value_in}
use Rattle.wfe_core.specs.defs.declared.call.Answer.TheVariants as answers
use Rattle.wfe_core.specs.defs.declared.call.Call.TheVariants as calls
use Rattle.wfe_core.specs.defs.declared.call.ClockMove.{ClockMove}
use Rattle.wfe_table.specs.Closing.{closing_of}
use Rattle.wfe_table.specs.Public.{IsOf, SeatNow, TableNow}
use Rattle.wfe_table.specs.all.RunLaw.{bucket_in, is_change}
use Rattle.wfe_table.specs.closed.declared.closed.Closed.{Closed}
use Rattle.wfe_table.specs.rule.Views.{seat_of}
use Rattle.wfe_uses.specs.declared.counter.Attempt.{Attempt}
use Rattle.wfe_uses.specs.declared.counter.Attempt.TheVariants as attempts
use Rattle.wfe_uses.specs.declared.counter.Counter.{Counter}

-- the next number, where a key without a value stands for 0
abbrev pub one_more : Option ℕ → ℕ
one_more None = 1
one_more (Some value) = value + 1

-- A change that is done comes after a get, in the call before it: it puts one more than the value that the get told, at the version that
-- the get told.
pub record IsStep (key : ℕ) (last : Option Group) (group : Group) : Type 0 where
  pub version : ℕ
  pub found : Option ℕ
  pub notes : Notes
  pub got : last ≡ Some (record { call = calls.Get key; answer = answers.Got version found; notes = notes })
  pub call : group.call ≡ calls.PutIf key (one_more found) version
  pub made : ℕ
  pub clock : ClockMove
  pub answer : group.answer ≡ answers.Done made clock

-- each change of these calls is one, where this was the call before them
abbrev pub CountsFrom : (key : ℕ) → Option Group → List Group → Type 0
CountsFrom key last [] = Unit {0}
CountsFrom key last (group ∷ log) = (is_change group ≡ true → IsStep key last group) × CountsFrom key (Some group) log

-- the calls of a log count the key up, so often
pub record Counts (key : ℕ) (log : List Group) (times : ℕ) : Type 0 where
  pub steps : CountsFrom key None log
  pub times_is : count_by is_change log ≡ times

-- how many counts came of an attempt
abbrev pub counted_by : Attempt → ℕ
counted_by attempts.Counted = 1
counted_by attempts.Again = 0
counted_by attempts.Refused = 0

-- a seat that has made no call
pub record IsFresh (shared : TableNow) (seat : SeatNow) : Type 0 where
  pub of : IsOf seat shared
  pub log : seat.track.local.log ≡ []

-- the seat of this number, after its counts
pub record IsCounter (shared : TableNow) (key number : ℕ) (counter : Counter) : Type 0 where
  pub of : IsOf counter.seat shared
  pub number_is : seat_of counter.seat.track ≡ number
  pub counts : Counts key counter.seat.track.local.log counter.counts

-- seats, and the sum of what they counted
pub record IsSummed (all : List Counter) (seats : List SeatNow) (total : ℕ) : Type 0 where
  pub seats_are : seats ≡ map (λ counter. counter.seat) all
  pub total_is : total ≡ sum_by (λ counter. counter.counts) all

-- a number as a key's value, and 0 as none
abbrev pub shown : ℕ → Option ℕ
shown zero = None
shown (suc count) = Some (suc count)

-- the table shows the key counted up so often, and its bucket changed by nothing else
pub record ShowsCount (key : ℕ) (closed : Closed) (total : ℕ) : Type 0 where
  pub value : value_in (bucket_in (key % length closed.buckets.items) (closing_of closed)).pairs key ≡ shown total
  pub version : (bucket_in (key % length closed.buckets.items) (closing_of closed)).version ≡ total
