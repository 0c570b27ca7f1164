-- Which texts are made of lines of a record, and what is said of their reading.
use Rattle.std.specs.Prelude.{ℕ, ◌≡◌, ◌≤◌, ◌++◌, ◌⊎◌, List, [], ◌∷◌, Option, None, Ok, codes, length}
use Rattle.std.specs.Io.KnownBytes.{IsAtEnd}
use Rattle.laws.specs.words.declared.config.Config.{Config}
use Rattle.laws.specs.words.Config.{bad_field}
use Rattle.laws.specs.records.Record.{Past, tells}
use Rattle.laws.specs.records.Record.Past.{Start}
use Rattle.laws.specs.Good.{Good}
use Rattle.wfe_trace.specs.Record.{header_line}
use Rattle.wfe_trace.specs.Setting.{pairs_in, scheme_version}
use Rattle.wfe_check_lines.specs.records.Entry.{IsEvent}
use Rattle.wfe_check_lines.specs.records.record_words.Within.{IsSeat}
use Rattle.wfe_record_words.specs.declared.header.TheConstants.{LAST_VERSION}
use Rattle.wfe_check_lines.specs.Reading.{Reading, came, finished}
use Rattle.wfe_check_lines.specs.Reading.Stage.{Over}
use Rattle.wfe_check_lines.specs.Texts.{IsCounts, IsRow}
use Rattle.wfe_check_lines.specs.Verdicts.{IsLawful, IsVerdict}
use Rattle.wfe_check_lines.specs.declared.verdict.Verdict.{Verdict}
use Rattle.wfe_check_lines.specs.declared.verdict.Verdict.TheVariants as verdicts
use Rattle.wfe_check_lines.specs.out.Pieces.{Piece, heard_of, text_of}
use Rattle.wfe_check_lines.specs.out.Pieces.Piece.{Text, Told as Says}

-- whole lines: each with a line feed at its end
abbrev pub lines_text : List (List ℕ) → List ℕ
lines_text [] = []
lines_text (line ∷ lines) = (line ++ codes "\n") ++ lines_text lines

-- lines of counts or of watchers' rows
abbrev pub AreShown : List (List ℕ) → Type 0
AreShown [] = Unit {0}
AreShown (line ∷ lines) = (IsCounts line ⊎ IsRow line) × AreShown lines

-- what a piece puts out is lines of a record of the version and the setting: the line of an entry, or lines of counts or rows
abbrev pub IsPrinted : ℕ → Config → Piece → Type 0
IsPrinted version config (Text bytes) = (lines : List (List ℕ)) × (bytes ≡ lines_text lines) × AreShown lines
IsPrinted version config (Says x) = IsSeat config x.seat × IsEvent version config x.event

abbrev pub ArePrinted : ℕ → Config → List Piece → Type 0
ArePrinted version config [] = Unit {0}
ArePrinted version config (piece ∷ pieces) = IsPrinted version config piece × ArePrinted version config pieces

-- the entries of pieces, as a record
abbrev pub past_of : List Piece → Past
past_of pieces = tells Start (heard_of pieces)

-- The text is a record of the version and the setting, from its first line to its last one, and between these stand the lines of the
-- pieces.
pub record IsWhole (version : ℕ) (config : Config) (body : List Piece) (text : List ℕ) : Type 0 where
  pub first : 1 ≤ version
  pub last : version ≤ LAST_VERSION
  pub within : bad_field config ≡ None
  pub pairs : config.pairs ≡ pairs_in version
  pub known : scheme_version config.scheme ≤ version
  pub printed : ArePrinted version config body
  pub is : text ≡ header_line version config ++ (text_of body ++ codes "done\n")
  pub short : length text ≤ 1073741824

-- the text is read to its end, with no bad line, and tells these entries
pub record IsRead (version : ℕ) (config : Config) (body : List Piece) (text : List ℕ) : Type 0 where
  pub last : Reading
  pub good_text : came text ≡ Ok last
  pub ends : finished last ≡ Ok last
  pub told : last.told ≡ record { stage = Over version config; entries = past_of body; count = length (heard_of body) }
  pub line : last.line ≡ []

-- a text that is made of lines of a record is read, and tells the entries of those lines
abbrev pub PrintedIsRead : Type 0
PrintedIsRead = (version : ℕ) (config : Config) (body : List Piece) (text : List ℕ) → IsWhole version config body text → IsRead version config body text

-- where these entries are good, the text is a record that was read to its end and is good
abbrev pub LawfulIsRead : Type 0
LawfulIsRead =
    (version : ℕ) (config : Config) (body : List Piece) (text : List ℕ) (left : Option (List ℕ))
    → IsWhole version config body text → Good version config (past_of body) → IsAtEnd left → IsLawful text left (length (heard_of body))

-- and no record that was read to its end and is good comes to another verdict
abbrev pub LawfulIsOnly : Type 0
LawfulIsOnly =
    (taken : List ℕ) (left : Option (List ℕ)) (count : ℕ) (verdict : Verdict)
    → IsLawful taken left count → IsVerdict taken left verdict → verdict ≡ verdicts.Lawful count
