-- How the first line of a record is read, word by word.
use Rattle.std.specs.Prelude.{◌&&◌, nat_le, ℕ, List, Option, Some, None, codes, if◌then◌else◌}
use Rattle.std.specs.Str.{bytes_eq}
use Rattle.wfe_words.specs.declared.config.Config.{Config}
use Rattle.wfe_words.specs.declared.config.SchemeKind.{SchemeKind}
use Rattle.wfe_words.specs.declared.config.SchemeKind.TheVariants as schemes
use Rattle.wfe_words.specs.declared.config.Field.{Field}
use Rattle.wfe_words.specs.declared.config.Field.TheVariants as fields
use Rattle.wfe_words.specs.Config.{allows}
use Rattle.wfe_trace.specs.Setting.{pairs_in, scheme_version}
use Rattle.wfe_trace.specs.Words.{number_in}
use Rattle.wfe_record_words.specs.Reader.{Read, given, ◌>>=◌, done, whole, word, since}
use Rattle.wfe_record_words.specs.declared.header.TheConstants.{LAST_VERSION}

unfoldable pub scheme_in : List ℕ → Option SchemeKind
scheme_in w =
    if bytes_eq w (codes "he") then Some schemes.He else
    if bytes_eq w (codes "ibr") then Some schemes.Ibr else
    if bytes_eq w (codes "wfe") then Some schemes.Wfe else
    if bytes_eq w (codes "hp") then Some schemes.Hp else None

abbrev pub scheme : Read SchemeKind
scheme = word scheme_in

-- a number in the field's range
unfoldable pub setting_in : Field → List ℕ → Option ℕ
setting_in field w = given (number_in w) (λ n. if allows field n then Some n else None)

abbrev pub setting : Field → Read ℕ
setting field = word (setting_in field)

-- a version that records are read of
unfoldable pub version_in : List ℕ → Option ℕ
version_in w = given (number_in w) (λ n. if nat_le 1 n && nat_le n LAST_VERSION then Some n else None)

abbrev pub version : Read ℕ
version = word version_in

-- a setting, with so many pairs
abbrev pub config : ℕ → Read Config
config pairs = do
  kind ← scheme
  seats ← setting fields.Seats
  indexes ← setting fields.Indexes
  slots ← setting fields.Slots
  buckets ← setting fields.Buckets
  tries ← setting fields.Tries
  every ← setting fields.Every
  last_era ← setting fields.LastEra
  last_version ← setting fields.LastVersion
  done (record { scheme = kind; seats = seats; indexes = indexes; slots = slots; buckets = buckets; tries = tries; every = every; last_era = last_era; last_version = last_version; pairs = pairs })

-- the word of this name
unfoldable pub exactly : List ℕ → List ℕ → Option (Unit {0})
exactly name w = if bytes_eq w name then Some tt else None

abbrev pub header : Read (ℕ × Config)
header = do
  name ← word (exactly (codes "record"))
  number ← version
  setting ← config (pairs_in number)
  since (scheme_version setting.scheme) number (done (number, setting))

-- the version and the setting of a line's words
abbrev pub header_in : List (List ℕ) → Option (ℕ × Config)
header_in ws = whole (header ws)
