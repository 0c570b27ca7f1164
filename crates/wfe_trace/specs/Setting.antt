-- The lines of a trace before its body.
use Rattle.std.specs.Prelude.{if◌then◌else◌, nat_le, ℕ, List, [], ◌∷◌, Result, Ok, Err, codes}
use Rattle.std.specs.Str.{bytes_eq}
use Rattle.wfe_words.specs.declared.config.SchemeKind.{SchemeKind}
use Rattle.wfe_words.specs.declared.config.SchemeKind.TheVariants as schemes
use Rattle.wfe_words.specs.declared.config.Config.{Config}
use Rattle.wfe_words.specs.declared.config.Field.{Field}
use Rattle.wfe_words.specs.declared.config.Field.TheVariants as fields
use Rattle.wfe_words.specs.Config.{allows}
use Rattle.wfe_trace.specs.declared.reason.Reason.{Reason}
use Rattle.wfe_trace.specs.declared.reason.Reason.TheVariants as reasons
use Rattle.wfe_trace.specs.Words.{number_in, need, or_number, ◌>>=◌}

-- the version that the first line names, of those that are read
abbrev pub version_line : List ℕ → Result ℕ Reason
version_line bytes =
    if bytes_eq bytes (codes "wfe 1") then Ok 1 else
    if bytes_eq bytes (codes "wfe 2") then Ok 2 else
    if bytes_eq bytes (codes "wfe 3") then Ok 3 else
    if bytes_eq bytes (codes "wfe 4") then Ok 4 else
    if bytes_eq bytes (codes "wfe 5") then Ok 5 else Err reasons.First

-- for how many pairs a row has room, in traces of the version
abbrev pub pairs_in : ℕ → ℕ
pairs_in version = if nat_le 3 version then 14 else 6

-- the word after the one that a line of the setting begins with
abbrev pub word_after : List ℕ → List (List ℕ) → Result (List ℕ) Reason
word_after name (first ∷ word ∷ []) = if bytes_eq first name then Ok word else Err reasons.Config
word_after name _ = Err reasons.Config

-- the scheme that a word names
abbrev pub scheme_in : List ℕ → Result SchemeKind Reason
scheme_in w =
    if bytes_eq w (codes "he") then Ok schemes.He else
    if bytes_eq w (codes "ibr") then Ok schemes.Ibr else
    if bytes_eq w (codes "wfe") then Ok schemes.Wfe else
    if bytes_eq w (codes "hp") then Ok schemes.Hp else Err reasons.Config

-- the first version whose traces have the scheme
abbrev pub scheme_version : SchemeKind → ℕ
scheme_version schemes.He = 1
scheme_version schemes.Ibr = 1
scheme_version schemes.Wfe = 1
scheme_version schemes.Hp = 5

-- the scheme that the second line names
abbrev pub scheme_line : List (List ℕ) → Result SchemeKind Reason
scheme_line ws = do
  word ← word_after (codes "scheme") ws
  scheme_in word

-- the same, where traces of the version have the scheme
abbrev pub scheme_known : (version : ℕ) → List (List ℕ) → Result SchemeKind Reason
scheme_known version ws = do
  scheme ← scheme_line ws
  known ← need (nat_le (scheme_version scheme) version) reasons.Config
  Ok scheme

-- a field's name
abbrev pub field_name : Field → List ℕ
field_name fields.Seats = codes "seats"
field_name fields.Indexes = codes "indexes"
field_name fields.Slots = codes "slots"
field_name fields.Buckets = codes "buckets"
field_name fields.Tries = codes "tries"
field_name fields.Every = codes "every"
field_name fields.LastEra = codes "last_era"
field_name fields.LastVersion = codes "last_version"
field_name fields.Pairs = codes "pairs"

-- the number that a field's line gives it
abbrev pub number_line : Field → List (List ℕ) → Result ℕ Reason
number_line field ws = do
  word ← word_after (field_name field) ws
  number ← or_number (number_in word)
  within ← need (allows field number) reasons.Range
  Ok number

-- the setting with another number in a field
abbrev pub with_number : Config → Field → ℕ → Config
with_number config fields.Seats n = record config { seats = n }
with_number config fields.Indexes n = record config { indexes = n }
with_number config fields.Slots n = record config { slots = n }
with_number config fields.Buckets n = record config { buckets = n }
with_number config fields.Tries n = record config { tries = n }
with_number config fields.Every n = record config { every = n }
with_number config fields.LastEra n = record config { last_era = n }
with_number config fields.LastVersion n = record config { last_version = n }
with_number config fields.Pairs n = record config { pairs = n }
