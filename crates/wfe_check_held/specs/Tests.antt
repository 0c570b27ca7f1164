-- What the tests come to on the cells.
use Rattle.std.specs.Prelude.{ℕ, Bool, true, false, Option, Some, None, List, ◌≡◌, ◌==◌, ◌&&◌, ◌||◌, not, nat_le, nat_lt}
use Rattle.std.specs.List.{list_all}
use Rattle.laws.specs.records.Record.{Past}
use Rattle.wfe_defs.specs.declared.call.Call.{Call}
use Rattle.wfe_defs.specs.declared.call.Call.TheVariants as calls
use Rattle.wfe_defs.specs.declared.event.Event.{Event}
use Rattle.wfe_defs.specs.declared.event.Event.TheVariants as events
use Rattle.wfe_defs.specs.declared.event.Guard.TheVariants.{Index}
use Rattle.wfe_defs.specs.declared.lifetime.Interval.{Interval}
use Rattle.laws.specs.EraLaw.{same_interval}
use Rattle.laws.specs.HoldLaw.{is_of_root}
use Rattle.laws.specs.StateAt.{began_of, birth_of, is_one_of, is_row, value_of}
use Rattle.wfe_check_held.specs.Grids.{cell_at}
use Rattle.wfe_check_held.specs.Roots.{looks, place_of}
use Rattle.wfe_check_held.specs.Times.{row_at, seat_at}
use Rattle.wfe_check_held.specs.declared.rows.Row.{Row}
use Rattle.wfe_check_held.specs.declared.times.Times.{Times}

-- the root of the seat's call has had this since the call began
abbrev pub had_at : Times → (seat : ℕ) → Option ℕ → Bool
had_at times i found = looks (seat_at times.seats.items i).call && cell_at times.had i (place_of found) == (seat_at times.seats.items i).begun

-- the era is no earlier than the clock at a position, and no later than the clock
abbrev pub clock_since : (from clock era : ℕ) → Bool
clock_since from clock era = nat_le from era && nat_le era clock

abbrev pub clock_at : Times → (seat era : ℕ) → Bool
clock_at times i era = clock_since (seat_at times.seats.items i).clock times.clock era

abbrev pub cut_at : Times → (seat slot era : ℕ) → Bool
cut_at times i s era = nat_lt 0 (cell_at times.cuts i s) && clock_since (cell_at times.cuts i s) times.clock era

abbrev pub copied_at : Option Call → (span source : Option Interval) → Bool
copied_at (Some (calls.Copy from index)) span source = same_interval span source
copied_at call span source = false

abbrev pub upper_at : Times → (seat : ℕ) → (span : Option Interval) → Bool
upper_at times i None = true
upper_at times i (Some span) = clock_at times i span.hi

-- the tests on roots, births, retire eras and intervals. `birth`: the birth era of the row that is retired; `source`: what the index
-- word publishes from which the seat copies
abbrev pub fits_at : Times → (seat : ℕ) → Event → (birth : ℕ) → (source : Option Interval) → Bool
fits_at times i (events.Held index slot steps) birth source = not (is_of_root index) || had_at times i (Some slot)
fits_at times i (events.Null index steps) birth source = not (is_of_root index) || had_at times i None
fits_at times i (events.Give slot era) birth source = clock_at times i era
fits_at times i (events.Retire slot era retire) birth source = era == birth && ((row_at times.rows.items slot).taken && cut_at times i slot retire)
fits_at times i (events.Reserve guard span) birth source = upper_at times i span || copied_at (seat_at times.seats.items i).call span source
fits_at times i event birth source = true

-- where a row is retired, this is its birth era
abbrev pub IsBirth : Event → ℕ → Past → Type 0
IsBirth (events.Retire slot era retire) birth p = birth ≡ birth_of slot p
IsBirth event birth p = Unit {0}

-- where the seat's call copies, this is what the index word publishes from which it does
abbrev pub IsSource : (seat : ℕ) → Option Interval → Past → Type 0
IsSource i source p = (from index : ℕ) → began_of i p ≡ Some (calls.Copy from index) → source ≡ value_of (Index i from) p

-- the row was taken at a position of the call
abbrev pub was_taken_at : (begun : ℕ) → Row → Bool
was_taken_at begun row = row.taken || nat_lt begun row.freed

-- the row was the last one of the queue at a position of the call
abbrev pub was_last_at : Times → (seat : ℕ) → (last : Option ℕ) → (row : ℕ) → Bool
was_last_at times i last row = is_row row last || nat_lt (seat_at times.seats.items i).begun (row_at times.rows.items row).passed

-- the same rows
abbrev pub AreAmong : List ℕ → List ℕ → Type 0
AreAmong rows others = (s : ℕ) → is_one_of s rows ≡ is_one_of s others

-- where an entry reads, one is so where the other is
abbrev pub IsSought : Event → (seeks : Bool) → (sought : Bool) → Type 0
IsSought (events.Read guard span) seeks sought = seeks ≡ sought
IsSought (events.Saw guard slot) seeks sought = seeks ≡ sought
IsSought event seeks sought = Unit {0}

-- where a block begins in search of a free row, each row was taken at a position of the call
abbrev pub room_at : Times → (seat : ℕ) → Event → (seeks : Bool) → Bool
room_at times i (events.Read guard span) seeks = not seeks || list_all (was_taken_at (seat_at times.seats.items i).begun) times.rows.items
room_at times i (events.Saw guard slot) seeks = not seeks || list_all (was_taken_at (seat_at times.seats.items i).begun) times.rows.items
room_at times i event seeks = true
