-- The retire lists of seats, read off a record at a position: which lives belong to which seat, and which lists were left and taken over.
use Rattle.std.specs.Prelude.{List, [], ◌∷◌, ◌++◌, ◌==◌, if◌then◌else◌, ◌&&◌, ◌||◌, Bool, true, false, not, ℕ}
use Rattle.model_record.specs.Record.{Past}
use Rattle.model_record.specs.Record.Past.{Start, Then}
use Rattle.model_record.specs.defs.declared.event.Event.{Event}
use Rattle.model_record.specs.defs.declared.event.Event.TheVariants as events
use Rattle.model_record.specs.defs.declared.lifetime.Lifetime.{Lifetime}

-- a list without the lives of a slot
abbrev pub without : ℕ → List Lifetime → List Lifetime
without slot [] = []
without slot (life ∷ lives) = if life.slot == slot then without slot lives else life ∷ without slot lives

-- a seat's list after an event of the seat: a life that it retires comes last, and one that it tells Back is gone
abbrev pub list_by : Event → List Lifetime → List Lifetime
list_by (events.Retire slot birth retire) list = list ++ record { slot = slot; birth = birth; retire = retire } ∷ []
list_by (events.Back slot) list = without slot list
list_by event list = list

-- a seat's list after any event of the seat: a list that it takes over comes last, in its order
abbrev pub gained_by : Event → (other : ℕ → List Lifetime) → List Lifetime → List Lifetime
gained_by (events.Adopted place count) other list = list ++ other place
gained_by event other list = list_by event list

-- a seat's list after an event of another seat: it is empty once that seat has taken it over
abbrev pub handed_by : ℕ → Event → List Lifetime → List Lifetime
handed_by i (events.Adopted place count) list = if i == place then [] else list
handed_by i event list = list

-- the lives that belong to seat i and were not told Back since, in the order in which they came to it: by its Retire, or with a list
-- that it took over; and none once another seat has taken its list over
abbrev pub list_of : ℕ → Past → List Lifetime
list_of i Start = []
list_of i (Then p k event) = if i == k then gained_by event (λ (place : ℕ). list_of place p) (list_of i p) else handed_by i event (list_of i p)

-- an event that takes a list over
abbrev pub is_handed : Event → Bool
is_handed (events.Adopted place count) = true
is_handed event = false

-- no list is taken over
abbrev pub hands_none : List Event → Bool
hands_none [] = true
hands_none (event ∷ told) = not (is_handed event) && hands_none told

-- the seat leaves its list
abbrev pub is_left : Event → Bool
is_left (events.Left count) = true
is_left event = false

-- seat i has left its list
abbrev pub has_left : ℕ → Past → Bool
has_left i Start = false
has_left i (Then p k event) = (is_left event && i == k) || has_left i p

-- the list of this seat is taken over
abbrev pub adopts : ℕ → Event → Bool
adopts i (events.Adopted place count) = i == place
adopts i event = false

-- some seat has taken the list of seat i over
abbrev pub is_adopted : ℕ → Past → Bool
is_adopted i Start = false
is_adopted i (Then p k event) = adopts i event || is_adopted i p

-- the list has the slot
abbrev pub has_slot : ℕ → List Lifetime → Bool
has_slot slot [] = false
has_slot slot (life ∷ lives) = (life.slot == slot) || has_slot slot lives
