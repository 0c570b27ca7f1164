-- What threads queue and take, by the calls in their seats' logs.
use Rattle.std.specs.Prelude.{Err, List, None, Ok, Option, Result, Some, [], count_by, map, sum_by, ℕ, ◌++◌, ◌+◌, ◌==◌, ◌∷◌, ◌≡◌}
use Rattle.std.specs.declared.alloc.Global.{Global}
use Rattle.std.specs.declared.vec.Vec.{Vec}
use Rattle.wfe_core.specs.Locals.{Group}
use Rattle.wfe_core.specs.defs.declared.call.Answer.TheVariants as answers
use Rattle.wfe_core.specs.defs.declared.call.Answer.{Answer}
use Rattle.wfe_core.specs.defs.declared.call.Call.TheVariants as calls
use Rattle.wfe_core.specs.defs.declared.call.Call.{Call}
use Rattle.wfe_table.specs.Public.{IsOf, SeatNow, TableNow}
use Rattle.wfe_table.specs.closed.declared.closed.Closed.{Closed}
use Rattle.wfe_table.specs.rule.Views.{seat_of}
use Rattle.wfe_uses.specs.declared.pipeline.Hand.{Hand}

-- the value that a call has queued, and the one that it has taken
abbrev pub value_queued : Call → Answer → Option ℕ
value_queued (calls.Enqueue value) (answers.Queued number) = Some value
value_queued call answer = None

abbrev pub value_taken : Call → Answer → Option ℕ
value_taken calls.Dequeue (answers.Taken number value clock) = Some value
value_taken call answer = None

abbrev pub listed : Option ℕ → List ℕ
listed None = []
listed (Some value) = value ∷ []

-- those of the calls of a log
abbrev pub queued_in : List Group → List ℕ
queued_in [] = []
queued_in (group ∷ log) = listed (value_queued group.call group.answer) ++ queued_in log

abbrev pub taken_in : List Group → List ℕ
taken_in [] = []
taken_in (group ∷ log) = listed (value_taken group.call group.answer) ++ taken_in log

-- the calls of a log have queued these values, and taken those
pub record Moves (log : List Group) (sent taken : List ℕ) : Type 0 where
  pub sent_is : sent ≡ queued_in log
  pub taken_is : taken ≡ taken_in log

-- the seat of this number, with the values that it has queued and taken
pub record IsHand (shared : TableNow) (number : ℕ) (hand : Hand) : Type 0 where
  pub of : IsOf hand.seat shared
  pub number_is : seat_of hand.seat.track ≡ number
  pub moves : Moves hand.seat.track.local.log hand.sent.items hand.taken.items

-- unless memory ran out
abbrev pub IsOutcome : {E : Type 0} → TableNow → (number : ℕ) → Result Hand E → Type 0
IsOutcome shared number (Ok hand) = IsHand shared number hand
IsOutcome shared number (Err error) = Unit {0}

-- hands, taken apart
pub record IsParted {E : Type 0} (all : List (Result Hand E)) (seats : List SeatNow) (sent taken : List (Vec ℕ Global)) : Type 0 where
  pub done : List Hand
  pub all_done : all ≡ map (λ hand. Ok hand) done
  pub seats_are : seats ≡ map (λ hand. hand.seat) done
  pub sent_are : sent ≡ map (λ hand. hand.sent) done
  pub taken_are : taken ≡ map (λ hand. hand.taken) done

-- how often a value is in these lists, and in a closed table's queue
abbrev pub times_in : ℕ → List (Vec ℕ Global) → ℕ
times_in value lists = sum_by (λ list. count_by (λ item. item == value) list.items) lists

abbrev pub times_left : ℕ → Closed → ℕ
times_left value closed = count_by (λ item. item.1 == value) closed.queue.items

-- each value was taken, or is left, as often as it was queued
abbrev pub Balances : (sent taken : List (Vec ℕ Global)) → Closed → Type 0
Balances sent taken closed = (value : ℕ) → times_in value sent ≡ times_in value taken + times_left value closed
