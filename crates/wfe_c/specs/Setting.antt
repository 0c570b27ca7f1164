-- The setting of a table as C has it, and why no table is made.
use Rattle.std.specs.Prelude.{None, Option, Some, if◌then◌else◌, ℕ, ◌==◌}
use Rattle.wfe_table_end.specs.declared.refusals.MakeError.{MakeError}
use Rattle.wfe_table_end.specs.declared.refusals.MakeError.TheVariants as errors
use Rattle.wfe_core.specs.words.declared.config.Config.{Config}
use Rattle.wfe_core.specs.words.declared.config.Field.TheVariants as fields
use Rattle.wfe_core.specs.words.declared.config.SchemeKind.{SchemeKind}
use Rattle.wfe_core.specs.words.declared.config.SchemeKind.TheVariants as schemes
use Rattle.wfe_c.specs.declared.setting.CSetting.{CSetting}

abbrev pub scheme_of : ℕ → Option SchemeKind
scheme_of number =
    if number == 0 then Some schemes.He
    else if number == 1 then Some schemes.Ibr
    else if number == 2 then Some schemes.Wfe
    else if number == 3 then Some schemes.Hp
    else None

abbrev pub scheme_number : SchemeKind → ℕ
scheme_number schemes.He = 0
scheme_number schemes.Ibr = 1
scheme_number schemes.Wfe = 2
scheme_number schemes.Hp = 3

abbrev pub zeros : CSetting
zeros =
    record {
      scheme = 0;
      seats = 0;
      indexes = 0;
      slots = 0;
      buckets = 0;
      tries = 0;
      every = 0;
      last_era = 0;
      last_version = 0;
      pairs = 0;
    }

abbrev pub setting_of : Config → CSetting
setting_of config =
    record {
      scheme = scheme_number config.scheme;
      seats = config.seats;
      indexes = config.indexes;
      slots = config.slots;
      buckets = config.buckets;
      tries = config.tries;
      every = config.every;
      last_era = config.last_era;
      last_version = config.last_version;
      pairs = config.pairs;
    }

abbrev pub config_of : CSetting → SchemeKind → Config
config_of setting scheme =
    record {
      scheme = scheme;
      seats = setting.seats;
      indexes = setting.indexes;
      slots = setting.slots;
      buckets = setting.buckets;
      tries = setting.tries;
      every = setting.every;
      last_era = setting.last_era;
      last_version = setting.last_version;
      pairs = setting.pairs;
    }

abbrev pub refusal_code : MakeError → ℕ
refusal_code errors.NoMemory = 17
refusal_code (errors.BadConfig fields.Seats) = 19
refusal_code (errors.BadConfig fields.Indexes) = 20
refusal_code (errors.BadConfig fields.Slots) = 21
refusal_code (errors.BadConfig fields.Buckets) = 22
refusal_code (errors.BadConfig fields.Tries) = 23
refusal_code (errors.BadConfig fields.Every) = 24
refusal_code (errors.BadConfig fields.LastEra) = 25
refusal_code (errors.BadConfig fields.LastVersion) = 26
refusal_code (errors.BadConfig fields.Pairs) = 27
