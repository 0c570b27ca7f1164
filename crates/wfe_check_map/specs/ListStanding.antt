-- What it is that the state is that of a record under a setting.
use Rattle.std.specs.Prelude.{◌≡◌, ℕ, ◌<◌, true, length, map, Bool}
use Rattle.laws.specs.Lists.{has_left, is_adopted, list_of}
use Rattle.laws.specs.ScanLaw.{guards}
use Rattle.laws.specs.StateAt.{read_of, scans_of}
use Rattle.laws.specs.words.declared.config.Config.{Config}
use Rattle.laws.specs.defs.declared.event.Event.{Event}
use Rattle.laws.specs.defs.declared.event.Event.TheVariants as events
use Rattle.laws.specs.records.Record.{Past}
use Rattle.wfe_defs.specs.Shown.{Seen}
use Rattle.wfe_defs.specs.declared.shown.Shown.{Shown}
use Rattle.wfe_check_map.specs.declared.lists.Lists.{Lists}
use Rattle.wfe_check_map.specs.Seats.{Scanning, IsDue, seat_in}

abbrev pub shown_in : Seen → Shown
shown_in seen = seen.1

-- where there are so many guards in all
pub record IsSeat (all i : ℕ) (seat : Scanning) (p : Past) : Type 0 where
  pub lives : seat.lives ≡ list_of i p
  -- of the guards that were read, what they showed
  pub read : seat.values ≡ map shown_in (read_of all i p)
  pub scans : seat.scans ≡ scans_of i p
  -- in a scan whose block is whole it is known which life goes back next
  pub due : seat.scans ≡ true → length seat.values ≡ all → IsDue seat.values seat.lives seat.place

pub record IsLists (config : Config) (lists : Lists) (p : Past) : Type 0 where
  pub setting : lists.config ≡ config
  pub all : lists.guards ≡ guards config
  pub many : length lists.seats.items ≡ config.seats
  pub seats : (i : ℕ) → i < config.seats → IsSeat (guards config) i (seat_in lists.seats.items i) p

-- the seat whose list an event takes over has left
abbrev pub LeftIs : Bool → Event → Past → Type 0
LeftIs left (events.Adopted place count) p = left ≡ has_left place p
LeftIs left event p = Unit {0}

-- its list was taken over before
abbrev pub AdoptedIs : Bool → Event → Past → Type 0
AdoptedIs taken (events.Adopted place count) p = taken ≡ is_adopted place p
AdoptedIs taken event p = Unit {0}
