-- What index words hold where they publish rows: a link that is loaded again is in the index word, and so is the link of a copy until it
-- is stored at the other index.
use Rattle.std.specs.Prelude.{ℕ, ◌≡◌, Bool, true, false}
use Rattle.inv_rows.specs.words.Place.{Place}
use Rattle.inv_rows.specs.words.Place.Place.{Index}
use Rattle.inv_rows.specs.words.Schemes.{publishes_rows}
use Rattle.inv_rows.specs.model.Phases.{ProtectAt, Base}
use Rattle.inv_rows.specs.model.Phases.HazardAt.{CheckLink}
use Rattle.inv_rows.specs.model.Phases.ProtectAt.{ByHazard}
use Rattle.inv_rows.specs.model.Phases.Base.{Begin, Protect}
use Rattle.inv_rows.specs.model.Calls.{StoreHeld, Keeping, Work, Phase, Idle, Runs, Scans, Works}
use Rattle.inv_rows.specs.model.World.{World}

abbrev pub protect_shows : (Place → ℕ) → (seat index : ℕ) → ProtectAt → Type 0
protect_shows mem seat index (ByHazard (CheckLink link)) = mem (Index seat index) ≡ link
protect_shows mem seat index at = Unit {0}

abbrev pub base_shows : (Place → ℕ) → (seat : ℕ) → Base → Type 0
base_shows mem seat (Begin at) = Unit {0}
base_shows mem seat (Protect aim index root steps at) = protect_shows mem seat index at
base_shows mem seat base = Unit {0}

abbrev pub copy_shows : (rows : Bool) → (Place → ℕ) → (seat from number : ℕ) → Type 0
copy_shows true mem seat from link = mem (Index seat from) ≡ link
copy_shows false mem seat from era = Unit {0}

abbrev pub work_shows : (rows : Bool) → (Place → ℕ) → (seat : ℕ) → Work → Type 0
work_shows rows mem seat (Keeping (StoreHeld from index number)) = copy_shows rows mem seat from number
work_shows rows mem seat work = Unit {0}

abbrev pub phase_shows : (rows : Bool) → (Place → ℕ) → (seat : ℕ) → Phase → Type 0
phase_shows rows mem seat Idle = Unit {0}
phase_shows rows mem seat (Runs why base) = base_shows mem seat base
phase_shows rows mem seat (Scans later at) = Unit {0}
phase_shows rows mem seat (Works work) = work_shows rows mem seat work

pub record Hazards (w : World) : Type 0 where
  pub shows : (k : ℕ) → phase_shows (publishes_rows w.layout.config.scheme) w.mem k (w.seat k).phase
