-- Where a row is held only at an index at which nothing stands, and cleared only where it stands, one row stands there at most.
use Rattle.std.proofs.Common.{ℕ, ◌≡◌, Bool, true, false, refl, List, [], ◌∷◌, None, Some, Option}
use Rattle.std.specs.Prelude.{◌==◌, if◌then◌else◌, ◌||◌, is_none}
use Rattle.laws.proofs.records.defs.Facts.{number_is}
use Rattle.laws.specs.HistoryHolds.{clears_ok}
use Rattle.laws.specs.HistoryHolds.{lone_ok}
use Rattle.laws.specs.StateAt.{standing_by, standing_of, stood_by, stood_at, is_row, is_one_of, without_row, stands, is_bare, is_empty}
use Rattle.laws.specs.defs.declared.event.Event.{Event}
use Rattle.laws.specs.defs.declared.event.Event.TheVariants as events
use Rattle.laws.specs.records.Record.{Past, Each}
use Rattle.laws.specs.records.Record.Past.{Start, Then}

-- the row that stands, as a list
abbrev pub one_row : Option ℕ → List ℕ
one_row None = []
one_row (Some slot) = slot ∷ []

-- an event of the seat at what stands at index j: a Held or a Copied comes where nothing does, and a Clear takes what stands
abbrev lone_by : ℕ → Event → Option ℕ → Bool
lone_by j (events.Held index slot steps) x = if j == index then is_none x else true
lone_by j (events.Copied from index slot) x = if j == index then is_none x else true
lone_by j (events.Clear index slot) x = if j == index then is_row slot x else true
lone_by j event x = true

held_one : (slot : ℕ) (x : Option ℕ) (here : Bool) → (if here then is_none x else true) ≡ true → (if here then slot ∷ one_row x else one_row x) ≡ one_row (if here then Some slot else x)
held_one slot None true h = refl
held_one slot (Some other) true h = absurd (cc)
held_one slot x false h = refl

cleared_one : (slot : ℕ) (x : Option ℕ) (here : Bool) → (if here then is_row slot x else true) ≡ true → (if here then without_row slot (one_row x) else one_row x) ≡ one_row (if here then None else x)
cleared_one slot None true h = refl
cleared_one slot (Some other) true h = rw h refl
cleared_one slot x false h = refl

one_by : (j : ℕ) (event : Event) (x : Option ℕ) → lone_by j event x ≡ true → standing_by j event (one_row x) ≡ one_row (stood_by j event x)
one_by j (events.Held index slot steps) x h = held_one slot x (j == index) h
one_by j (events.Copied from index slot) x h = held_one slot x (j == index) h
one_by j (events.Clear index slot) x h = cleared_one slot x (j == index) h
one_by j event x h = refl

-- so it is with each entry of a seat
here_none : (f : ℕ → Option ℕ) (index j : ℕ) (here : Bool) → (j == index) ≡ here → is_none (f index) ≡ true → (if here then is_none (f j) else true) ≡ true
here_none f index j true e h = let same : j ≡ index = number_is j index e in rw same h
here_none f index j false e h = refl

here_row : (f : ℕ → Option ℕ) (slot index j : ℕ) (here : Bool) → (j == index) ≡ here → is_row slot (f index) ≡ true → (if here then is_row slot (f j) else true) ≡ true
here_row f slot index j true e h = let same : j ≡ index = number_is j index e in rw same h
here_row f slot index j false e h = refl

lone_here : (i j : ℕ) (p : Past) (event : Event) → lone_ok p i event ≡ true → clears_ok p i event ≡ true → lone_by j event (stood_at i j p) ≡ true
lone_here i j p (events.Held index slot steps) h c = here_none (λ (m : ℕ). stood_at i m p) index j (j == index) refl h
lone_here i j p (events.Copied from index slot) h c = here_none (λ (m : ℕ). stood_at i m p) index j (j == index) refl h
lone_here i j p (events.Clear index slot) h c = here_row (λ (m : ℕ). stood_at i m p) slot index j (j == index) refl c
lone_here i j p event h c = refl

one_entry : (k i j : ℕ) (p : Past) (event : Event) (same : Bool) → (k == i) ≡ same → lone_ok p i event ≡ true → clears_ok p i event ≡ true → standing_of k j p ≡ one_row (stood_at k j p) → standing_of k j (Then p i event) ≡ one_row (stood_at k j (Then p i event))
one_entry k i j p event true e h c s =
    let same : k ≡ i = number_is k i e in
    let here : lone_by j event (stood_at k j p) ≡ true = rw same (lone_here i j p event h c) in
    rw (e, s) (one_by j event (stood_at k j p) here)
one_entry k i j p event false e h c s = rw e s

pub one_stands : (k j : ℕ) (p : Past) → Each lone_ok p → Each clears_ok p → standing_of k j p ≡ one_row (stood_at k j p)
one_stands k j Start h c = refl
one_stands k j (Then p i event) h c = one_entry k i j p event (k == i) refl h.0 c.0 (one_stands k j p h.1 c.1)

one_of_row : (s : ℕ) (x : Option ℕ) → is_one_of s (one_row x) ≡ is_row s x
one_of_row s None = refl
one_of_row s (Some slot) = or_none (s == slot)
  where
    or_none : (b : Bool) → (b || false) ≡ b
    or_none true = refl
    or_none false = refl

-- a row stands there just where it is the one
pub stands_one : (k j s : ℕ) (p : Past) → Each lone_ok p → Each clears_ok p → stands k j s p ≡ is_row s (stood_at k j p)
stands_one k j s p h c = rw (one_stands k j p h c) (one_of_row s (stood_at k j p))

bare_row : (x : Option ℕ) → is_empty (one_row x) ≡ is_none x
bare_row None = refl
bare_row (Some slot) = refl

pub bare_one : (k j : ℕ) (p : Past) → Each lone_ok p → Each clears_ok p → is_bare k j p ≡ is_none (stood_at k j p)
bare_one k j p h c = rw (one_stands k j p h c) (bare_row (stood_at k j p))
