-- The law of schedules as turns and records show it: what a turn may tell, and what its numbers count.
use Rattle.std.specs.Prelude.{Bool, List, [], false, if◌then◌else◌, nat_le, nat_lt, not, true, ℕ, ◌&&◌, ◌+◌, ◌==◌, ◌||◌, ◌∷◌}
use Rattle.model_record.specs.Record.{EachEntry, Past, tells_of}
use Rattle.model_record.specs.Turns.History.{Blank, Starts, Turns}
use Rattle.model_record.specs.Turns.{History, record_of, turns_of}
use Rattle.model_record.specs.defs.declared.event.Event.TheVariants as events
use Rattle.model_record.specs.defs.declared.event.Event.{Event}
use Rattle.model_record.specs.defs.declared.event.Guard.TheVariants.{Index}
use Rattle.laws.specs.Standing.{open_ok}
use Rattle.laws.specs.StateAt.{hazards_of, reserves_of}

-- an event that changes or reads a word of the table
abbrev pub is_atomic : Event → Bool
is_atomic (events.Era era) = true
is_atomic (events.Reserve guard span) = true
is_atomic (events.Read guard span) = true
is_atomic (events.Hazard guard slot) = true
is_atomic (events.Saw guard slot) = true
is_atomic (events.Give slot birth) = true
is_atomic (events.Unused slot) = true
is_atomic (events.Link root slot) = true
is_atomic (events.Retire slot birth retire) = true
is_atomic (events.Back slot) = true
is_atomic event = false

abbrev pub none_atomic : List Event → Bool
none_atomic [] = true
none_atomic (event ∷ told) = not (is_atomic event) && none_atomic told

abbrev pub one_atomic : List Event → Bool
one_atomic [] = true
one_atomic (event ∷ told) = if is_atomic event then none_atomic told else one_atomic told

-- a turn tells at most one of them
abbrev pub one_step : History → ℕ → List Event → Bool
one_step h i told = one_atomic told

-- calls begin and end in turn at each seat
abbrev pub OpenLaw : Past → Type 0
OpenLaw r = EachEntry open_ok r

-- how many turns seat i has taken since its index word j published nothing, the turn that published an interval included
abbrev pub turns_since : (seat index : ℕ) → History → ℕ
turns_since i j Blank = 0
turns_since i j (Starts h k call) = turns_since i j h
turns_since i j (Turns h k told) = if i == k then (if reserves_of i j (record_of h) == 0 then 1 else turns_since i j h + 1) else turns_since i j h

-- The index word publishes. The number is that of the turns since the one that published it, and one more for the turn before; these
-- are turns of the present call.
abbrev pub number_right : (published turns call number : ℕ) → Bool
number_right published turns call number = nat_lt 0 published && (number == turns + 1 && nat_le number call)

abbrev pub event_right : (published turns : ℕ → ℕ) → (call : ℕ) → Event → Bool
event_right published turns call (events.Held index slot steps) = number_right (published index) (turns index) call steps
event_right published turns call (events.Null index steps) = number_right (published index) (turns index) call steps
event_right published turns call event = true

abbrev pub events_right : (published turns : ℕ → ℕ) → (call : ℕ) → List Event → Bool
events_right published turns call [] = true
events_right published turns call (event ∷ told) = event_right published turns call event && events_right published turns call told

-- so it is after the turn that tells the Held or Null
abbrev pub numbers_right : History → ℕ → List Event → Bool
numbers_right h i told =
    events_right (λ j. reserves_of i j (tells_of (record_of h) i told)) (λ j. turns_since i j (Turns h i told)) (turns_of i (Turns h i told)) told

-- how many turns seat i has taken since its index word j published nothing, the turn that published a row included
abbrev pub turns_hazarded : (seat index : ℕ) → History → ℕ
turns_hazarded i j Blank = 0
turns_hazarded i j (Starts h k call) = turns_hazarded i j h
turns_hazarded i j (Turns h k told) = if i == k then (if hazards_of i j (record_of h) == 0 then 1 else turns_hazarded i j h + 1) else turns_hazarded i j h

-- By the turns since the one that published the index word, and the one before it. A Null of a protection that published nothing is told by
-- the first turn of it.
abbrev pub event_loaded : (published turns : ℕ → ℕ) → (call : ℕ) → Event → Bool
event_loaded published turns call (events.Held index slot steps) = number_right (published index) (turns index) call steps
event_loaded published turns call (events.Null index steps) = if published index == 0 then steps == 1 else number_right (published index) (turns index) call steps
event_loaded published turns call event = true

abbrev pub events_loaded : (published turns : ℕ → ℕ) → (call : ℕ) → List Event → Bool
events_loaded published turns call [] = true
events_loaded published turns call (event ∷ told) = event_loaded published turns call event && events_loaded published turns call told

-- so it is after the turn that tells the Held or Null
abbrev pub loads_right : History → ℕ → List Event → Bool
loads_right h i told =
    events_loaded (λ j. hazards_of i j (tells_of (record_of h) i told)) (λ j. turns_hazarded i j (Turns h i told)) (turns_of i (Turns h i told)) told

-- the index word is the teller's own, or its seat has published an interval there and not withdrawn it
abbrev pub event_handed : (teller : ℕ) → (published : ℕ → ℕ → ℕ) → Event → Bool
event_handed i published (events.Reserve (Index k j) span) = k == i || nat_lt 0 (published k j)
event_handed i published event = true

abbrev pub events_handed : (teller : ℕ) → (published : ℕ → ℕ → ℕ) → List Event → Bool
events_handed i published [] = true
events_handed i published (event ∷ told) = event_handed i published event && events_handed i published told

-- so it is before the turn
abbrev pub handed_right : History → ℕ → List Event → Bool
handed_right h i told = events_handed i (λ k j. reserves_of k j (record_of h)) told
