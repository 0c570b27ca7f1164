-- What is kept of the positions of calls, cuts and rows.
use Rattle.std.specs.Prelude.{ℕ, false, Option, None, List, ◌≡◌, ◌<◌, ◌≤◌, ◌+◌, ◌-◌, ◌^◌, ◌==◌, ◌&&◌, if◌then◌else◌, get_or, length}
use Rattle.laws.specs.records.Record.{Past, begins, value_since}
use Rattle.laws.specs.records.Record.Past.{Start, Then}
use Rattle.wfe_words.specs.declared.config.Config.{Config}
use Rattle.laws.specs.HoldLaw.{has_had, is_last}
use Rattle.laws.specs.StateAt.{began_of, clock_of, cuts, taken_at}
use Rattle.wfe_check_held.specs.Grids.{IsGrid, cell_at}
use Rattle.wfe_check_rows.specs.Positions.{entries, since, ceased}
use Rattle.wfe_check_held.specs.Roots.{RowIn, looks, place_of}
use Rattle.wfe_check_held.specs.declared.rows.Row.{Row}
use Rattle.wfe_check_held.specs.declared.seats.Seat.{Seat}
use Rattle.wfe_check_held.specs.declared.times.Times.{Times}

-- before the first entry
abbrev pub first_seat : Seat
first_seat = record { begun = 0; clock = 1; call = None }

abbrev pub first_row : (slots row : ℕ) → Row
first_row slots s = record { taken = s == slots; freed = 0; passed = 0 }

abbrev pub seat_at : List Seat → ℕ → Seat
seat_at seats i = get_or seats i first_seat

abbrev pub row_at : List Row → ℕ → Row
row_at rows s = get_or rows s (record { taken = false; freed = 0; passed = 0 })

-- the clock right after seat i told the row's cut last, and 0 where it has told none
abbrev pub cut_clock : (seat row : ℕ) → Past → ℕ
cut_clock i s Start = 0
cut_clock i s (Then p k event) = if i == k && cuts s event then clock_of p else cut_clock i s p

-- the last call of a seat: the position right after its Begin, the clock there, and the call
pub record IsSeat (i : ℕ) (p : Past) (cell : Seat) : Type 0 where
  pub begun : cell.begun ≡ since (begins i) p
  pub clock : cell.clock ≡ value_since (begins i) clock_of p
  pub call : cell.call ≡ began_of i p

-- a row: whether it is taken, the position at which it ceased to be, and that at which it ceased to be the last one of the queue
pub record IsRow (slots s : ℕ) (p : Past) (cell : Row) : Type 0 where
  pub taken : cell.taken ≡ taken_at slots s p
  pub freed : cell.freed ≡ ceased (taken_at slots s) p
  pub passed : cell.passed ≡ ceased (is_last slots s) p

-- what a root may have: the position right after the Begin of the last call of the seat whose root had that
pub record IsHad (config : Config) (i : ℕ) (found : Option ℕ) (p : Past) (cell : ℕ) : Type 0 where
  pub before : cell ≤ entries p
  pub had : has_had config i p (began_of i p) found ≡ (looks (began_of i p) && cell == since (begins i) p)

-- the tables are as large as the setting says
pub record IsSized (times : Times) : Type 0 where
  pub slots : times.config.slots ≤ 65536
  pub buckets : 0 < times.config.buckets
  pub room : times.entries < 2 ^ 64 - 1
  pub clock : times.clock ≤ times.entries + 1
  pub seats : length times.seats.items ≡ times.config.seats
  pub rows : length times.rows.items ≡ times.config.slots + 1
  pub cuts : IsGrid times.config.seats (times.config.slots + 1) times.cuts
  pub had : IsGrid times.config.seats (times.config.slots + 2) times.had

-- what is kept is that of the record
pub record IsTimes (config : Config) (times : Times) (p : Past) : Type 0 where
  pub setting : times.config ≡ config
  pub sized : IsSized times
  pub entries : times.entries ≡ entries p
  pub clock : times.clock ≡ clock_of p
  pub seat : (i : ℕ) → i < config.seats → IsSeat i p (seat_at times.seats.items i)
  pub row : (s : ℕ) → s ≤ config.slots → IsRow config.slots s p (row_at times.rows.items s)
  pub cut : (i s : ℕ) → i < config.seats → s ≤ config.slots → cell_at times.cuts i s ≡ cut_clock i s p
  pub had : (i : ℕ) (found : Option ℕ) → i < config.seats → RowIn config.slots found →
      IsHad config i found p (cell_at times.had i (place_of found))
