-- The same in the words of Herlihy and Wing (TOPLAS 1990), with no word of points: one order of calls.
use Rattle.std.specs.Prelude.{Bool, List, None, Option, Some, [], false, if◌then◌else◌, true, ℕ, ◌&&◌, ◌+◌, ◌++◌, ◌<◌, ◌==◌, ◌||◌, ◌≡◌, ◌≤◌, ◌∷◌, ◌⊎◌}
use Rattle.laws.specs.StateAt.{seen}
use Rattle.laws.specs.defs.Entry.{Entry}
use Rattle.laws.specs.defs.declared.call.Answer.{Answer}
use Rattle.laws.specs.defs.declared.call.Call.{Call}
use Rattle.laws.specs.defs.declared.event.Event.TheVariants as events
use Rattle.laws.specs.defs.declared.event.Event.{Event}
use Rattle.laws.specs.records.Record.Past.{Start, Then}
use Rattle.laws.specs.records.Record.{Past, tells}
use Rattle.laws.specs.words.declared.config.Config.{Config}
use Rattle.law_linear.specs.Object.{Hand, Object, after, empty, empty_hand, keeps, may_answer}
use Rattle.law_linear.specs.Points.{timeless}

-- a call and its answer; `number`: of the calls of its seat it is the one of this number, from 1 on
pub record Made : Type 0 where
  pub seat : ℕ
  pub number : ℕ
  pub call : Call
  pub answer : Answer

-- the object, and what each caller keeps
pub record State : Type 0 where
  pub object : Object
  pub hand : ℕ → Hand

abbrev pub first_state : State
first_state = record { object = empty; hand = λ k. empty_hand }

abbrev pub then_state : Config → State → Made → State
then_state c s made =
    record {
      object = after c s.object made.call made.answer;
      hand = λ k. if k == made.seat then keeps c s.object (s.hand k) made.call made.answer else s.hand k;
    }

-- after these calls, one after another
abbrev pub state_after : Config → State → List Made → State
state_after c s [] = s
state_after c s (made ∷ later) = state_after c (then_state c s made) later

-- called so, one call after another, it may give these answers
abbrev pub Serves : Config → State → List Made → Type 0
Serves c s [] = Unit {0}
Serves c s (made ∷ later) = (may_answer c s.object (s.hand made.seat) made.call made.answer ≡ true) × Serves c (then_state c s made) later

-- how many calls a seat has begun, and how many it has ended
abbrev pub begins_by : Event → ℕ → ℕ
begins_by (events.Begin call) before = before + 1
begins_by event before = before

abbrev pub begun_of : ℕ → Past → ℕ
begun_of i p = seen begins_by 0 i p

abbrev pub ends_by : Event → ℕ → ℕ
ends_by (events.End steps answer) before = before + 1
ends_by event before = before

abbrev pub done_of : ℕ → Past → ℕ
done_of i p = seen ends_by 0 i p

-- the call of this number that seat i has begun
abbrev pub named_by : (number begun : ℕ) → Event → Option Call → Option Call
named_by number begun (events.Begin call) before = if number == begun + 1 then Some call else before
named_by number begun event before = before

abbrev pub call_named : (i number : ℕ) → Past → Option Call
call_named i number Start = None
call_named i number (Then p k event) = if i == k then named_by number (begun_of i p) event (call_named i number p) else call_named i number p

-- it is among these calls
abbrev pub is_in : (i number : ℕ) → List Made → Bool
is_in i number [] = false
is_in i number (made ∷ later) = (made.seat == i && made.number == number) || is_in i number later

-- and with this answer
abbrev pub IsAnswered : (i number : ℕ) → Answer → List Made → Type 0
IsAnswered i number answer [] = ⊥
IsAnswered i number answer (made ∷ later) = ((made.seat ≡ i) × (made.number ≡ number) × (made.answer ≡ answer)) ⊎ IsAnswered i number answer later

pub record IsOrder (c : Config) (r : Past) (order : List Made) : Type 0 where
  -- the object, called in this order, may give these answers
  pub serves : Serves c first_state order
  -- each call that has ended is there, with its answer
  pub ended :
      (p : Past) (i steps : ℕ) (answer : Answer) (later : List Entry)
      → r ≡ tells (Then p i (events.End steps answer)) later
      → IsAnswered i (begun_of i p) (timeless answer) order
  -- who is there has begun
  pub begun : (before later : List Made) (made : Made) → order ≡ before ++ made ∷ later → call_named made.seat made.number r ≡ Some made.call
  -- each is there once
  pub once : (before later : List Made) (made : Made) → order ≡ before ++ made ∷ later → is_in made.seat made.number later ≡ false
  -- a call that had ended at a position at which another had not begun comes before it
  pub in_time :
      (p : Past) (rest : List Entry) (i number : ℕ) (before later : List Made) (made : Made)
      → r ≡ tells p rest
      → 1 ≤ number
      → number ≤ done_of i p
      → begun_of made.seat p < made.number
      → order ≡ before ++ made ∷ later
      → is_in i number before ≡ true

pub record HasOrder (c : Config) (r : Past) : Type 0 where
  pub order : List Made
  pub right : IsOrder c r order
