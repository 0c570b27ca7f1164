-- A search through all orders of a record's calls. Where each call has ended it finds one that serves, if there is one; so a record for
-- which it finds none is not linearizable, and that computes.
use Rattle.std.specs.Prelude.{Bool, List, None, Option, Some, [], if◌then◌else◌, nat_lt, not, suc, true, false, zero, ℕ, ◌&&◌, ◌+◌, ◌==◌, ◌||◌, ◌≡◌, ◌∷◌}
use Rattle.laws.specs.defs.declared.call.Answer.{Answer}
use Rattle.laws.specs.defs.declared.call.Call.{Call}
use Rattle.laws.specs.defs.declared.event.Event.TheVariants as events
use Rattle.laws.specs.defs.declared.event.Event.{Event}
use Rattle.laws.specs.records.Record.Past.{Start, Then}
use Rattle.laws.specs.records.Record.{Past}
use Rattle.laws.specs.words.declared.config.Config.{Config}
use Rattle.law_linear.specs.Object.{may_answer}
use Rattle.law_linear.specs.Order.{HasOrder, Made, State, begun_of, call_named, done_of, first_state, is_in, then_state}
use Rattle.law_linear.specs.Points.{timeless}

-- the calls that end in p, each with its answer; r is the whole record
abbrev pub call_ended : (i number : ℕ) → Option Call → Answer → List Made → List Made
call_ended i number (Some call) answer others = record { seat = i; number = number; call = call; answer = answer } ∷ others
call_ended i number None answer others = others

abbrev pub ended_by : Past → ℕ → Past → Event → List Made → List Made
ended_by r i p (events.End steps answer) others = call_ended i (begun_of i p) (call_named i (begun_of i p) r) (timeless answer) others
ended_by r i p event others = others

abbrev pub ended_in : (r p : Past) → List Made
ended_in r Start = []
ended_in r (Then p i event) = ended_by r i p event (ended_in r p)

-- each call that begins in p is among these
abbrev pub begun_by : List Made → (i begun : ℕ) → Event → Bool
begun_by all i begun (events.Begin call) = is_in i (begun + 1) all
begun_by all i begun event = true

abbrev pub are_begun : List Made → Past → Bool
are_begun all Start = true
are_begun all (Then p i event) = begun_by all i (begun_of i p) event && are_begun all p

-- x had ended at a position at which y had not begun
abbrev pub is_over : (x y : Made) → Past → Bool
is_over x y p = (nat_lt 0 x.number && nat_lt x.number (done_of x.seat p + 1)) && nat_lt (begun_of y.seat p) y.number

abbrev pub goes_before : (x y : Made) → Past → Bool
goes_before x y Start = false
goes_before x y (Then p i event) = is_over x y (Then p i event) || goes_before x y p

-- none of these has to come before this one
abbrev pub none_before : Past → Made → List Made → Bool
none_before r made [] = true
none_before r made (x ∷ others) = not (goes_before x made r) && none_before r made others

-- all but this one
abbrev pub others_of : Made → List Made → List Made
others_of made [] = []
others_of made (x ∷ all) = if x.seat == made.seat && x.number == made.number then others_of made all else x ∷ others_of made all

abbrev pub some_of : (Made → Bool) → List Made → Bool
some_of ok [] = false
some_of ok (x ∷ all) = ok x || some_of ok all

-- One of these may come first, and then the others so, as far as so many calls.
abbrev pub may_serve : Config → Past → (calls : ℕ) → State → List Made → Bool
may_serve c r zero s all = true
may_serve c r (suc n) s [] = true
may_serve c r (suc n) s (y ∷ all) =
    some_of
    (λ (x : Made). may_answer c s.object (s.hand x.seat) x.call x.answer
    && (none_before r x (y ∷ all) && may_serve c r n (then_state c s x) (others_of x (y ∷ all))))
    (y ∷ all)

-- the search finds an order where there is one
abbrev pub OrdersAreFound : Type 0
OrdersAreFound =
    (config : Config) (r : Past) (calls : ℕ)
    → are_begun (ended_in r r) r ≡ true
    → HasOrder config r
    → may_serve config r calls first_state (ended_in r r) ≡ true
