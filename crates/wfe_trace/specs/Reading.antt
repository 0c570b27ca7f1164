-- A trace as it is read, line by line.
use Rattle.std.specs.Prelude.{None, ◌≡◌, ◌≤◌, ◌+◌, min, nat_le, Bool, true, false, ℕ, List, Result, Ok, codes, length}
use Rattle.std.specs.Result.{result_unwrap_or}
use Rattle.std.specs.Str.{bytes_eq}
use Rattle.wfe_words.specs.declared.config.Config.{Config}
use Rattle.wfe_words.specs.declared.config.SchemeKind.TheVariants as schemes
use Rattle.wfe_words.specs.declared.config.Field.{Field}
use Rattle.wfe_words.specs.declared.config.Field.TheVariants as fields
use Rattle.wfe_words.specs.Config.{bad_field, number_of}
use Rattle.wfe_trace.specs.declared.item.Mode.{Mode}
use Rattle.wfe_trace.specs.declared.item.Item.{Item}
use Rattle.wfe_trace.specs.declared.item.Item.TheVariants as items
use Rattle.wfe_trace.specs.declared.item.Stage.{Stage}
use Rattle.wfe_trace.specs.declared.item.Stage.TheVariants as stages
use Rattle.wfe_trace.specs.declared.reason.Reason.{Reason}
use Rattle.wfe_trace.specs.declared.reason.Reason.TheVariants as reasons
use Rattle.wfe_trace.specs.Body.{command_in, IsCommandWithin}
use Rattle.wfe_trace.specs.Setting.{version_line, pairs_in, scheme_version, scheme_line, scheme_known, number_line, with_number}
use Rattle.wfe_trace.specs.Words.{words, need, ◌>>=◌}

-- a trace of which some lines were read: the mode, the version, how many lines were read, the line that comes next, and the setting as far as it was read
pub record Reading : Type 0 where
  pub mode : Mode
  pub version : ℕ
  pub line : ℕ
  pub stage : Stage
  pub config : Config

-- the numbers of a setting before they are read: the least of each range
abbrev pub unread_config : Config
unread_config = record { scheme = schemes.He; seats = 1; indexes = 3; slots = 2; buckets = 1; tries = 1; every = 1; last_era = 1; last_version = 1; pairs = 6 }

-- no line was read
abbrev pub reading_start : Mode → Reading
reading_start mode = record { mode = mode; version = 1; line = 0; stage = stages.First; config = unread_config }

-- the item of a line at its place in the trace, or the reason why it is bad
abbrev pub judged_at : Stage → Reading → List ℕ → Result Item Reason
judged_at stages.First r bytes = do
  version ← version_line bytes
  Ok items.Setting
judged_at stages.Scheme r bytes = do
  scheme ← scheme_known r.version (words bytes)
  Ok items.Setting
judged_at (stages.Number field) r bytes = do
  number ← number_line field (words bytes)
  Ok items.Setting
judged_at stages.Begin r bytes = do
  named ← need (bytes_eq bytes (codes "begin")) reasons.Config
  Ok (items.Ready r.version r.config)
judged_at stages.Body r bytes = do
  command ← command_in r.mode r.version r.config (words bytes)
  Ok (items.Command command)

-- the item of the next line, or the reason why it is bad
abbrev pub judged : Reading → List ℕ → Result Item Reason
judged r bytes = do
  short ← need (nat_le (length bytes) 200) reasons.LongLine
  judged_at r.stage r bytes

-- the numbers of the setting are in their ranges, and a command keeps to them
abbrev pub IsItemWithin : Reading → Item → Type 0
IsItemWithin r items.Setting = Unit {0}
IsItemWithin r (items.Ready version config) = bad_field config ≡ None
IsItemWithin r (items.Command command) = IsCommandWithin r.config command

-- the line after a field's
abbrev pub after_field : Field → Stage
after_field fields.Seats = stages.Number fields.Indexes
after_field fields.Indexes = stages.Number fields.Slots
after_field fields.Slots = stages.Number fields.Buckets
after_field fields.Buckets = stages.Number fields.Tries
after_field fields.Tries = stages.Number fields.Every
after_field fields.Every = stages.Number fields.LastEra
after_field fields.LastEra = stages.Number fields.LastVersion
after_field fields.LastVersion = stages.Begin
after_field fields.Pairs = stages.Begin

-- the line after a line
abbrev pub stage_after : Stage → Stage
stage_after stages.First = stages.Scheme
stage_after stages.Scheme = stages.Number fields.Seats
stage_after (stages.Number field) = after_field field
stage_after stages.Begin = stages.Body
stage_after stages.Body = stages.Body

-- the version, which the first line gives
abbrev pub version_after : Stage → ℕ → List ℕ → ℕ
version_after stages.First version bytes = result_unwrap_or (version_line bytes) version
version_after _ version bytes = version

-- the setting with what a line gives it: the first line begins it, with the pairs of its version
abbrev pub config_after : Stage → Config → List ℕ → Config
config_after stages.First config bytes = with_number unread_config fields.Pairs (pairs_in (result_unwrap_or (version_line bytes) 1))
config_after stages.Scheme config bytes = record config { scheme = result_unwrap_or (scheme_line (words bytes)) config.scheme }
config_after (stages.Number field) config bytes = with_number config field (result_unwrap_or (number_line field (words bytes)) (number_of config field))
config_after _ config bytes = config

-- the number of the next line; the count stands still at the greatest number of 64 bits
abbrev pub line_after : Reading → ℕ
line_after r = min (r.line + 1) 18446744073709551615

-- the trace after a line that is not bad
abbrev pub reading_after : Reading → List ℕ → Reading
reading_after r bytes = record r { version = version_after r.stage r.version bytes; line = line_after r; stage = stage_after r.stage; config = config_after r.stage r.config bytes }

-- a line that gives the pairs of a row: no trace has one
abbrev pub gives_pairs : Stage → Bool
gives_pairs (stages.Number fields.Pairs) = true
gives_pairs _ = false

-- the version is one that is read, and the setting has its pairs and a scheme that it has
abbrev pub IsVersioned : (version : ℕ) → Config → Type 0
IsVersioned version config = (1 ≤ version) × (version ≤ 5) × (config.pairs ≡ pairs_in version) × (scheme_version config.scheme ≤ version)

-- so the setting that is whole has the pairs of its version, and a scheme that the version has
abbrev pub IsItemVersioned : Item → Type 0
IsItemVersioned items.Setting = Unit {0}
IsItemVersioned (items.Ready version config) = IsVersioned version config
IsItemVersioned (items.Command command) = Unit {0}
