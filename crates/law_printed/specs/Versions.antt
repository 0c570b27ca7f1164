-- The version of the lines that a trace gives, its pairs, and the schemes and the calls that it has.
use Rattle.std.specs.Prelude.{ℕ, ◌<◌, ◌≤◌, ◌≡◌, Bool, List, [], ◌∷◌, Ok, Some}
use Rattle.law_printed.specs.OfVersion.{BeginsAll, BeginsOf, HasCall}
use Rattle.law_printed.specs.laws.defs.declared.call.Call.{Call}
use Rattle.law_printed.specs.laws.defs.declared.call.Call.TheVariants as calls
use Rattle.law_printed.specs.laws.defs.declared.command.Command.{Command}
use Rattle.law_printed.specs.laws.defs.declared.command.Command.TheVariants as commands
use Rattle.wfe_trace.specs.Setting.{pairs_in, scheme_version}
use Rattle.wfe_trace.specs.words.declared.config.Config.{Config}
use Rattle.wfe_server_replay.specs.Given.{Given, IsTaken, given_record}
use Rattle.wfe_server_replay.specs.Replay.{whole}
use Rattle.wfe_server_replay.specs.Trace.{Progress}

-- the call of a line is such, if it begins one
abbrev pub CallsSuch : (Call → Type 0) → Command → Type 0
CallsSuch such (commands.Call seat call) = such call
CallsSuch such line = Unit {0}

-- so is each call of some lines
abbrev pub CallAll : (Call → Type 0) → List Command → Type 0
CallAll such [] = Unit {0}
CallAll such (line ∷ lines) = CallsSuch such line × CallAll such lines

-- the version has each call of some lines
abbrev pub HasLines : (version : ℕ) → List Command → Type 0
HasLines version lines = CallAll (HasCall version) lines

-- lines of a version that is read, with its number of pairs, and with a scheme and calls that it has
pub record IsOfVersion (given : Given) : Type 0 where
  pub first : 1 ≤ given.version
  pub last : given.version ≤ 5
  pub pairs : given.config.pairs ≡ pairs_in given.version
  pub scheme : scheme_version given.config.scheme ≤ given.version
  pub calls : HasLines given.version given.lines

-- so are those of each trace
abbrev pub GivenOfVersion : Type 0
GivenOfVersion = (makes : Call → Bool) (bytes : List ℕ) (progress : Progress Given) (given : Given) → whole makes bytes ≡ Ok progress → progress.engine ≡ Some given → IsOfVersion given

-- the setting has the indexes and the place that a call names
abbrev pub CallNames : Config → Call → Type 0
CallNames config (calls.Copy from index) = (from < config.indexes) × (index < config.indexes)
CallNames config (calls.DropIndex index) = index < config.indexes
CallNames config (calls.Look index key) = index < config.indexes
CallNames config (calls.Adopt place) = place < config.seats
CallNames config call = Unit {0}

-- the record of lines that are taken begins only calls of their version, and these name only what the setting has
pub record BeginsIn (given : Given) : Type 0 where
  pub versions : BeginsOf given.version (given_record given)
  pub names : BeginsAll (CallNames given.config) (given_record given)

abbrev pub RecordsBegin : Type 0
RecordsBegin = (makes : Call → Bool) (given : Given) → IsTaken makes given → IsOfVersion given → BeginsIn given
