-- Which texts are lines of a record, without their line feed. How they are read is not named here.
use Rattle.std.specs.Prelude.{◌≡◌, ◌⊎◌, ◌++◌, ℕ, List, Option, None, Some, codes}
use Rattle.wfe_words.specs.declared.config.Config.{Config}
use Rattle.wfe_trace.specs.declared.reason.Reason.{Reason}
use Rattle.wfe_trace.specs.Fits.{NumberFits}
use Rattle.wfe_trace.specs.Record.{bad_line, table_line, watch_line}
use Rattle.wfe_trace.specs.Words.{words}
use Rattle.wfe_record.specs.Entry.{IsEntry}
use Rattle.wfe_record.specs.record_words.Within.{Small}
use Rattle.wfe_record.specs.record_words.Header.{IsHeader}
use Rattle.wfe_record.specs.record_words.HeaderReader.{header_in}
use Rattle.wfe_check_lines.specs.Kinds.{kind_in}
use Rattle.wfe_check_lines.specs.declared.kind.Kind.{Kind}
use Rattle.wfe_check_lines.specs.declared.kind.Kind.TheVariants as kinds

-- a seat, whichever, or all
abbrev pub IsCounted : Option ℕ → Type 0
IsCounted None = Unit {0}
IsCounted (Some seat) = NumberFits seat

-- the bytes are a line of counts, of a seat or of all; as text alone, whatever seats the setting has
pub record IsCounts (bytes : List ℕ) : Type 0 where
  pub seat : Option ℕ
  pub retired : ℕ
  pub back : ℕ
  pub waiting : ℕ
  pub text : table_line seat retired back waiting ≡ bytes ++ codes "\n"
  pub seated : IsCounted seat
  pub retired_fits : NumberFits retired
  pub back_fits : NumberFits back
  pub waiting_fits : NumberFits waiting

-- the bytes are the line of a watcher's row
pub record IsRow (bytes : List ℕ) : Type 0 where
  pub place : ℕ
  pub a : ℕ
  pub b : ℕ
  pub c : ℕ
  pub text : watch_line place a b c ≡ bytes ++ codes "\n"
  pub place_fits : NumberFits place
  pub a_fits : NumberFits a
  pub b_fits : NumberFits b
  pub c_fits : NumberFits c

-- the bytes are the line that names the first bad line of a trace, and why it is bad
pub record IsRefusal (bytes : List ℕ) : Type 0 where
  pub line : ℕ
  pub reason : Reason
  pub text : bad_line line reason ≡ bytes ++ codes "\n"
  pub fits : NumberFits line

-- the bytes are a line of this kind, in a record of the version and the setting
abbrev pub IsKind : ℕ → Config → List ℕ → Kind → Type 0
IsKind version config bytes (kinds.Entry seat event) = IsEntry version config bytes seat event
IsKind version config bytes kinds.Shown = IsCounts bytes ⊎ IsRow bytes
IsKind version config bytes kinds.Last = (bytes ≡ codes "done") ⊎ IsRefusal bytes

-- the kind that is read in a line's words is the one that the line is of
abbrev pub KindsAreTexts : Type 0
KindsAreTexts =
    (version : ℕ) (config : Config) (bytes : List ℕ) (kind : Kind) → Small config
    → (kind_in version config (words bytes) ≡ Some kind → IsKind version config bytes kind) × (IsKind version config bytes kind → kind_in version config (words bytes) ≡ Some kind)

-- the version and the setting that are read in a first line's words are those that it is the line of
abbrev pub HeadersAreTexts : Type 0
HeadersAreTexts =
    (bytes : List ℕ) (version : ℕ) (config : Config)
    → (header_in (words bytes) ≡ Some (version, config) → IsHeader bytes version config) × (IsHeader bytes version config → header_in (words bytes) ≡ Some (version, config))
