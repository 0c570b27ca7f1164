-- When guards, and the rows that stand, are as a record leaves them.
use Rattle.std.specs.Prelude.{ℕ, ◌≡◌, ◌≤◌, ◌<◌, ◌*◌, true, length}
use Rattle.laws.specs.words.declared.config.Config.{Config}
use Rattle.laws.specs.defs.declared.event.Guard.{Guard}
use Rattle.laws.specs.defs.declared.event.Guard.TheVariants.{Index}
use Rattle.laws.specs.defs.declared.event.Event.{Event}
use Rattle.laws.specs.records.Record.{Past}
use Rattle.laws.specs.HoldLaw.{is_held}
use Rattle.laws.specs.NoReuse.{reuse_ok}
use Rattle.laws.specs.StateAt.{hazard_of, is_one_of, stands, value_of}
use Rattle.laws.specs.Ranges.{GuardIn}
use Rattle.wfe_check_held.specs.declared.protections.Protections.{Protections}
use Rattle.wfe_check_held.specs.Shown.{hazard_in, rows_in, value_in}

-- seat, index and slot are the setting's
pub record IsPlace (config : Config) (seat index slot : ℕ) : Type 0 where
  pub seat_in : seat < config.seats
  pub index_in : index < config.indexes
  pub slot_in : slot ≤ config.slots

-- they are those of the record, under this setting
pub record IsProtections (config : Config) (kept : Protections) (p : Past) : Type 0 where
  pub setting : kept.config ≡ config
  pub helpers : length kept.helpers.items ≡ config.seats
  pub wholes : length kept.wholes.items ≡ config.seats
  pub words : length kept.words.items ≡ config.indexes * config.seats
  pub slots : length kept.hazards.items ≡ config.indexes * config.seats
  pub sets : length kept.standing.items ≡ config.indexes * config.seats
  -- each seat has the indexes 0, 1 and 2
  pub indexes : 3 ≤ config.indexes
  pub values : (guard : Guard) → GuardIn config guard → value_in kept guard ≡ value_of guard p
  pub hazards : (k j : ℕ) → k < config.seats → j < config.indexes → hazard_in kept (Index k j) ≡ hazard_of (Index k j) p
  pub standing : (k j s : ℕ) → k < config.seats → j < config.indexes → is_one_of s (rows_in kept k j) ≡ stands k j s p
  pub within : (k j s : ℕ) → stands k j s p ≡ true → IsPlace config k j s

-- each row that stands is taken, and what the guard of its index publishes keeps its life
abbrev pub AllHeld : Config → Past → Type 0
AllHeld config p = (k j s : ℕ) → stands k j s p ≡ true → is_held config k j s p ≡ true

-- no row that stands is used again
abbrev pub NoneReused : Past → ℕ → Event → Type 0
NoneReused p i event = (k j s : ℕ) → reuse_ok k j s p i event ≡ true
