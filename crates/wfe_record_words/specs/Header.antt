-- Which texts are the first line of a record, without its line feed.
use Rattle.std.specs.Prelude.{◌≡◌, ◌≤◌, ◌++◌, ℕ, List, None, codes}
use Rattle.wfe_words.specs.declared.config.Config.{Config}
use Rattle.wfe_words.specs.Config.{bad_field}
use Rattle.wfe_trace.specs.Record.{header_line}
use Rattle.wfe_trace.specs.Setting.{pairs_in, scheme_version}
use Rattle.wfe_record_words.specs.declared.header.TheConstants.{LAST_VERSION}

-- the bytes are the first line of a record of the version with the setting
pub record IsHeader (bytes : List ℕ) (version : ℕ) (config : Config) : Type 0 where
  pub text : header_line version config ≡ bytes ++ codes "\n"
  pub first : 1 ≤ version
  pub last : version ≤ LAST_VERSION
  pub within : bad_field config ≡ None
  pub pairs : config.pairs ≡ pairs_in version
  pub known : scheme_version config.scheme ≤ version
