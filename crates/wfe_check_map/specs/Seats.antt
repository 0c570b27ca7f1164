-- What events make of a seat's list and scan.
use Rattle.std.specs.Prelude.{◌≡◌, ◌<◌, ℕ, Bool, true, false, ◌==◌, ◌||◌, List, [], ◌∷◌, ◌++◌, Option, Some, None, if◌then◌else◌, length, take, not, ◌&&◌, nat_lt, is_none, slice_get, slice_set, slice_index_or}
use Rattle.laws.specs.Lists.{list_by, without}
use Rattle.laws.specs.ScanLaw.{guard_at, is_life_of}
use Rattle.laws.specs.StateAt.{is_scan, same_guard}
use Rattle.laws.specs.words.declared.config.Config.{Config}
use Rattle.laws.specs.defs.declared.event.Event.{Event}
use Rattle.laws.specs.defs.declared.event.Event.TheVariants as events
use Rattle.wfe_defs.specs.Shown.{keeps, shown, shown_row}
use Rattle.wfe_defs.specs.declared.shown.Shown.{Shown}
use Rattle.wfe_defs.specs.declared.lifetime.Lifetime.{Lifetime}
pub use Rattle.wfe_check_map.specs.Scanning.{Scanning, no_scanning}

-- one of what guards showed keeps the life
abbrev pub keeps_one : Lifetime → List Shown → Bool
keeps_one life [] = false
keeps_one life (value ∷ values) = keeps life value || keeps_one life values

-- the first life that none of it keeps
abbrev pub next_due : List Shown → List Lifetime → Option Lifetime
next_due values [] = None
next_due values (life ∷ lives) = if keeps_one life values then next_due values lives else Some life

-- the lives before the place are kept, and the one there, if there is one, is the first that is not
pub record IsDue (values : List Shown) (lives : List Lifetime) (place : ℕ) : Type 0 where
  pub kept : next_due values (take place lives) ≡ None
  pub here : next_due values lives ≡ slice_get lives place

-- the number of the guard that is read next
abbrev pub number_in : (all : ℕ) → Scanning → ℕ
number_in all seat = if length seat.values == all then 0 else length seat.values

-- no scan is left undone
abbrev pub done_in : (all : ℕ) → Scanning → Bool
done_in all seat = not seat.scans || (length seat.values == all && is_none (slice_get seat.lives seat.place))

-- a guard may be read
abbrev pub may_read_in : (all : ℕ) → Scanning → Bool
may_read_in all seat = if nat_lt 0 (length seat.values) && nat_lt (length seat.values) all then seat.scans else done_in all seat

-- a row of this slot may go back
abbrev pub goes_back_in : (all slot : ℕ) → Scanning → Bool
goes_back_in all slot seat = seat.scans && (length seat.values == all && is_life_of slot (slice_get seat.lives seat.place))

-- the entry may be told
abbrev pub fits_in : Config → (all : ℕ) → Event → Scanning → Bool
fits_in config all (events.Read guard span) seat = same_guard guard (guard_at config (number_in all seat)) && may_read_in all seat
fits_in config all (events.Saw guard slot) seat = same_guard guard (guard_at config (number_in all seat)) && may_read_in all seat
fits_in config all (events.Back slot) seat = goes_back_in all slot seat
fits_in config all event seat = done_in all seat

-- what the seat has read after it reads a guard
abbrev pub values_with : (all : ℕ) → Shown → List Shown → List Shown
values_with all value values = (if length values == all then [] else values) ++ value ∷ []

abbrev pub values_by : (all : ℕ) → Event → List Shown → List Shown
values_by all (events.Read guard span) values = values_with all (shown span) values
values_by all (events.Saw guard slot) values = values_with all (shown_row slot) values
values_by all event values = values

-- what a guard makes that is read
pub record ReadStep (all : ℕ) (value : Shown) (old new : Scanning) : Type 0 where
  pub lives : new.lives ≡ old.lives
  pub values : new.values ≡ values_with all value old.values
  pub scans : new.scans ≡ true
  pub due : length new.values ≡ all → IsDue new.values new.lives new.place

-- what a Back makes
pub record BackStep (slot : ℕ) (old new : Scanning) : Type 0 where
  pub lives : new.lives ≡ without slot old.lives
  pub values : new.values ≡ old.values
  pub scans : new.scans ≡ true
  pub due : IsDue old.values old.lives old.place → IsDue new.values new.lives new.place

-- a life that was due before goes back
abbrev pub WasDue : Event → Scanning → Type 0
WasDue (events.Back slot) old = IsDue old.values old.lives old.place
WasDue event old = Unit {0}

-- what an event of the seat makes that takes over no list
pub record OwnStep (all : ℕ) (event : Event) (old new : Scanning) : Type 0 where
  pub lives : new.lives ≡ list_by event old.lives
  pub values : new.values ≡ values_by all event old.values
  pub scans : new.scans ≡ is_scan event
  pub due : is_scan event ≡ true → length new.values ≡ all → WasDue event old → IsDue new.values new.lives new.place

-- the seat's list is taken over
abbrev pub emptied : Scanning → Scanning
emptied old = record old { lives = []; place = 0 }

-- the seat takes lives over
abbrev pub gained : List Lifetime → Scanning → Scanning
gained lives old = record old { lives = old.lives ++ lives; scans = false }

abbrev pub seat_in : List Scanning → ℕ → Scanning
seat_in seats i = slice_index_or seats i no_scanning

-- what a seat takes over: its own list twice where it takes that over
abbrev pub handed : (seat place : ℕ) → List Lifetime → List Lifetime
handed seat place lives = if seat == place then lives ++ lives else lives

-- all seats after one takes over the list of another
abbrev pub adopted : (seat place : ℕ) → List Scanning → List Scanning
adopted seat place seats =
    let rest = slice_set seats place (emptied (seat_in seats place)) in
    slice_set rest seat (gained (handed seat place (seat_in seats place).lives) (seat_in rest seat))

-- the seats after an event of one that takes over no list
pub record NotesOwn (all seat : ℕ) (event : Event) (old new : List Scanning) : Type 0 where
  pub many : length new ≡ length old
  pub own : seat < length old → OwnStep all event (seat_in old seat) (seat_in new seat)
  pub others : (k : ℕ) → (k ≡ seat → ⊥) → seat_in new k ≡ seat_in old k
