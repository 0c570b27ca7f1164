-- What one entry more has to meet, so that a good record stays good.
use Rattle.std.specs.Prelude.{ℕ, false, true, ◌≡◌, ◌≤◌}
use Rattle.laws.specs.words.declared.config.Config.{Config}
use Rattle.laws.specs.defs.declared.event.Event.{Event}
use Rattle.laws.specs.records.Record.{Past}
use Rattle.laws.specs.records.Record.Past.{Start, Then}
use Rattle.laws.specs.StateAt.{stands}
use Rattle.laws.specs.EraLaw.{era_ok, moves_ok, advances_ok, kind_ok, birth_ok, retire_ok, current_ok, single_ok, rising_ok, guard_ok}
use Rattle.laws.specs.HoldLaw.{is_held, sources_ok, finds_ok, gots_ok, links_ok, behind_ok, bare_ok}
use Rattle.laws.specs.MapLaw.{map_ok}
use Rattle.laws.specs.NoReuse.{reuse_ok}
use Rattle.laws.specs.Once.{free_ok, placing_ok, order_ok, nexts_ok, retiring_ok, backs_ok, lists_ok}
use Rattle.laws.specs.QueueLaw.{queue_ok, empty_ok}
use Rattle.laws.specs.ScanLaw.{scan_ok, read_ok, blocks_ok, room_ok}
use Rattle.laws.specs.Standing.{open_ok}
use Rattle.laws.specs.StepLaw.{steps_ok, withdraw_ok, tries_ok, raise_ok, hazards_ok, ask_ok, end_ok}
use Rattle.laws.specs.words.Schemes.{is_he, is_ibr, is_wfe, publishes_rows, moves as moves_clock}
use Rattle.laws.specs.Good.{Good, rests_of}

-- at the end of the record what stands is taken, and what the guard of its index publishes keeps its life
abbrev pub IsCovered : Config → Past → Type 0
IsCovered config p = (k j s : ℕ) → stands k j s p ≡ true → is_held config k j s p ≡ true

-- The entry meets each test of a good record at its position. The fields are those of `Good` and of the laws in it, each with the test
-- that it asks of every entry.
pub record Fits (version : ℕ) (config : Config) (p : Past) (i : ℕ) (event : Event) : Type 0 where
  pub calls : open_ok p i event ≡ true
  pub reuse : (k j s : ℕ) → reuse_ok k j s p i event ≡ true
  pub free : free_ok config.slots p i event ≡ true
  pub placing : placing_ok p i event ≡ true
  pub order : order_ok config.slots p i event ≡ true
  pub nexts : nexts_ok config.slots p i event ≡ true
  pub retiring : retiring_ok p i event ≡ true
  pub backs : backs_ok p i event ≡ true
  pub lists : lists_ok p i event ≡ true
  pub blocks : scan_ok config p i event ≡ true
  pub reads : read_ok p i event ≡ true
  pub due : blocks_ok config p i event ≡ true
  pub room : (s : ℕ) → s ≤ config.slots → room_ok config s p i event ≡ true
  pub numbers : era_ok config.last_era p i event ≡ true
  pub moves : moves_ok config p i event ≡ true
  pub advances : moves_clock config.scheme ≡ false → advances_ok p i event ≡ true
  pub births : birth_ok p i event ≡ true
  pub retires : retire_ok config.slots p i event ≡ true
  pub current : current_ok p i event ≡ true
  pub single : single_ok config.scheme p i event ≡ true
  pub rising : rising_ok config.scheme p i event ≡ true
  pub guards : guard_ok config.scheme p i event ≡ true
  pub kinds : kind_ok config.scheme p i event ≡ true
  pub covered : IsCovered config (Then p i event)
  pub sources : sources_ok config p i event ≡ true
  pub finds : finds_ok p i event ≡ true
  pub gots : gots_ok p i event ≡ true
  pub links : links_ok config.slots p i event ≡ true
  pub behind : behind_ok config.slots p i event ≡ true
  pub bare : bare_ok p i event ≡ true
  pub rests : rests_of version config p i event ≡ true
  pub map : map_ok config.buckets p i event ≡ true
  pub values : queue_ok p i event ≡ true
  pub empty : empty_ok p i event ≡ true
  pub steps : is_wfe config.scheme ≡ true → steps_ok config.tries p i event ≡ true
  pub withdrawals : is_wfe config.scheme ≡ true → withdraw_ok p i event ≡ true
  pub tries : is_he config.scheme ≡ true → tries_ok p i event ≡ true
  pub raises : is_ibr config.scheme ≡ true → raise_ok p i event ≡ true
  pub hazards : publishes_rows config.scheme ≡ true → hazards_ok p i event ≡ true
  pub asks : is_wfe config.scheme ≡ true → (j : ℕ) → ask_ok config.tries j p i event ≡ true
  pub ends : end_ok config p i event ≡ true

-- the record of no entry is good
abbrev pub BlankIsGood : Type 0
BlankIsGood = (version : ℕ) (config : Config) → Good version config Start

-- a record with one entry more is good exactly where it was good before and the entry meets its tests
abbrev pub GoodGrows : Type 0
GoodGrows =
    (version : ℕ) (config : Config) (p : Past) (i : ℕ) (event : Event)
    → (Good version config (Then p i event) → Good version config p × Fits version config p i event)
    × (Good version config p → Fits version config p i event → Good version config (Then p i event))
