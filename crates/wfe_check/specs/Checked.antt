-- When the checker stands for a record.
use Rattle.std.specs.Prelude.{ℕ, ◌≡◌, ◌<◌, ◌≤◌, Some}
use Rattle.laws.specs.Good.{Good}
use Rattle.laws.specs.Ranges.{EntryIn}
use Rattle.laws.specs.records.Record.{Past}
use Rattle.laws.specs.StateAt.{began_of, bucket_at}
use Rattle.wfe_words.specs.declared.config.Config.{Config}
use Rattle.wfe_defs.specs.declared.call.Call.TheVariants as names
use Rattle.wfe_defs.specs.declared.event.Event.{Event}
use Rattle.wfe_check_calls.specs.Calls.{IsCalls}
use Rattle.wfe_check_held.specs.Protections.{IsProtections}
use Rattle.wfe_check_map.specs.ListStanding.{IsLists}
use Rattle.wfe_check_map.specs.Standing.{IsContents}
use Rattle.wfe_check_rows.specs.Rows.{IsRows}
use Rattle.wfe_check_calls.specs.CallSteps.{IsSteps}
use Rattle.wfe_check_held.specs.Times.{IsTimes}
use Rattle.wfe_check.specs.declared.checker.Checker.{Checker}

-- each of its parts is that of the record
pub record Shows (config : Config) (c : Checker) (p : Past) : Type 0 where
  pub setting : c.config ≡ config
  pub rows : IsRows config c.rows p
  pub protections : IsProtections config c.protections p
  pub calls : IsCalls config c.calls p
  pub steps : IsSteps config c.steps p
  pub contents : IsContents config c.contents p
  pub lists : IsLists config c.lists p
  pub times : IsTimes config c.times p
  -- what is linked at the root of a bucket is a row of the table
  pub linked : (bucket slot : ℕ) → bucket_at bucket p ≡ Some slot → slot ≤ config.slots
  -- a call that copies does so from an index of the setting
  pub copies : (i from index : ℕ) → began_of i p ≡ Some (names.Copy from index) → from < config.indexes

-- and the record is good, by the laws of its version
pub record IsChecked (version : ℕ) (config : Config) (c : Checker) (p : Past) : Type 0 where
  pub version_is : c.version ≡ version
  pub shows : Shows config c p
  pub good : Good version config p

-- An entry may come: it is in the setting's ranges, and the checker stands for a record.
abbrev pub MayCome : Checker → ℕ → Event → Type 0
MayCome c seat event = (config : Config) × (before : Past) × Shows config c before × EntryIn config seat event
