-- The ranges of a setting's numbers.
use Rattle.std.specs.Prelude.{ℕ, ◌==◌, ◌&&◌, ◌||◌, if◌then◌else◌, nat_le, Bool, Option, Some, None}
use Rattle.wfe_words.specs.declared.config.Config.{Config}
use Rattle.wfe_words.specs.declared.config.Field.{Field}
use Rattle.wfe_words.specs.declared.config.Field.TheVariants as fields

-- the number is at least the first and at most the last
abbrev pub within : ℕ → ℕ → ℕ → Bool
within first last number = nat_le first number && nat_le number last

-- the number lies in the field's range
abbrev pub allows : Field → ℕ → Bool
allows fields.Seats number = within 1 64 number
allows fields.Indexes number = within 3 8 number
allows fields.Slots number = within 2 65536 number
allows fields.Buckets number = within 1 1024 number
allows fields.Tries number = within 1 64 number
allows fields.Every number = within 1 65536 number
allows fields.LastEra number = within 1 4294967295 number
allows fields.LastVersion number = within 1 281474976710656 number
allows fields.Pairs number = number == 6 || number == 14

-- the number that a setting gives a field
abbrev pub number_of : Config → Field → ℕ
number_of config fields.Seats = config.seats
number_of config fields.Indexes = config.indexes
number_of config fields.Slots = config.slots
number_of config fields.Buckets = config.buckets
number_of config fields.Tries = config.tries
number_of config fields.Every = config.every
number_of config fields.LastEra = config.last_era
number_of config fields.LastVersion = config.last_version
number_of config fields.Pairs = config.pairs

-- this field, if its number is outside its range, and else what follows
abbrev pub or_bad : Config → Field → Option Field → Option Field
or_bad config field later = if allows field (number_of config field) then later else Some field

-- the first field outside its range
abbrev pub bad_field : Config → Option Field
bad_field config =
    or_bad config fields.Seats (or_bad config fields.Indexes (or_bad config fields.Slots (or_bad config fields.Buckets
    (or_bad config fields.Tries (or_bad config fields.Every (or_bad config fields.LastEra (or_bad config fields.LastVersion
    (or_bad config fields.Pairs None))))))))
