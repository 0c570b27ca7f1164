-- What one entry has to meet, by the part of the checker that tells it.
use Rattle.std.specs.Prelude.{ℕ, ◌≡◌, ◌≤◌, false, true}
use Rattle.laws.specs.Good.{rests_of}
use Rattle.laws.specs.records.Record.{Past}
use Rattle.laws.specs.EraLaw.{advances_ok, birth_ok, current_ok, era_ok, guard_ok, kind_ok, moves_ok, retire_ok, rising_ok, single_ok}
use Rattle.laws.specs.HoldLaw.{bare_ok, behind_ok, finds_ok, gots_ok, links_ok, sources_ok}
use Rattle.laws.specs.MapLaw.{map_ok}
use Rattle.laws.specs.NoReuse.{reuse_ok}
use Rattle.laws.specs.Once.{backs_ok, free_ok, lists_ok, nexts_ok, order_ok, placing_ok, retiring_ok}
use Rattle.laws.specs.QueueLaw.{empty_ok, queue_ok}
use Rattle.laws.specs.ScanLaw.{blocks_ok, read_ok, room_ok, scan_ok}
use Rattle.laws.specs.Standing.{open_ok}
use Rattle.wfe_check_calls.specs.Right.{IsRight}
use Rattle.wfe_words.specs.Schemes.{moves as moves_clock}
use Rattle.wfe_words.specs.declared.config.Config.{Config}
use Rattle.wfe_defs.specs.declared.event.Event.{Event}

-- rows, roots and the clock
pub record FitsRows (config : Config) (p : Past) (i : ℕ) (event : Event) : Type 0 where
  pub free : free_ok config.slots p i event ≡ true
  pub nexts : nexts_ok config.slots p i event ≡ true
  pub order : order_ok config.slots p i event ≡ true
  pub numbers : era_ok config.last_era p i event ≡ true

-- calls
pub record FitsCalls (config : Config) (p : Past) (i : ℕ) (event : Event) : Type 0 where
  pub calls : open_ok p i event ≡ true
  pub placing : placing_ok p i event ≡ true
  pub retiring : retiring_ok p i event ≡ true
  pub due : blocks_ok config p i event ≡ true
  pub moves : moves_ok config p i event ≡ true
  pub finds : finds_ok p i event ≡ true
  pub advances : moves_clock config.scheme ≡ false → advances_ok p i event ≡ true

-- guards
pub record FitsGuards (version : ℕ) (config : Config) (p : Past) (i : ℕ) (event : Event) : Type 0 where
  pub reads : read_ok p i event ≡ true
  pub single : single_ok config.scheme p i event ≡ true
  pub rising : rising_ok config.scheme p i event ≡ true
  pub guards : guard_ok config.scheme p i event ≡ true
  pub kinds : kind_ok config.scheme p i event ≡ true
  pub bare : bare_ok p i event ≡ true
  pub rests : rests_of version config p i event ≡ true

-- rows that stand
pub record FitsStanding (config : Config) (p : Past) (i : ℕ) (event : Event) : Type 0 where
  pub reuse : (k j s : ℕ) → reuse_ok k j s p i event ≡ true
  pub links : links_ok config.slots p i event ≡ true
  pub behind : behind_ok config.slots p i event ≡ true
  pub gots : gots_ok p i event ≡ true

-- the map, the queue, lists and scans
pub record FitsContents (config : Config) (p : Past) (i : ℕ) (event : Event) : Type 0 where
  pub map : map_ok config.buckets p i event ≡ true
  pub values : queue_ok p i event ≡ true
  pub empty : empty_ok p i event ≡ true
  pub blocks : scan_ok config p i event ≡ true
  pub backs : backs_ok p i event ≡ true
  pub lists : lists_ok p i event ≡ true

-- positions of the call
pub record FitsTimes (config : Config) (p : Past) (i : ℕ) (event : Event) : Type 0 where
  pub sources : sources_ok config p i event ≡ true
  pub births : birth_ok p i event ≡ true
  pub retires : retire_ok config.slots p i event ≡ true
  pub current : current_ok p i event ≡ true
  pub room : (s : ℕ) → s ≤ config.slots → room_ok config s p i event ≡ true

-- all of these
pub record FitsParts (version : ℕ) (config : Config) (p : Past) (i : ℕ) (event : Event) : Type 0 where
  pub in_rows : FitsRows config p i event
  pub in_calls : FitsCalls config p i event
  pub in_steps : IsRight config p i event
  pub in_guards : FitsGuards version config p i event
  pub in_standing : FitsStanding config p i event
  pub in_contents : FitsContents config p i event
  pub in_times : FitsTimes config p i event
