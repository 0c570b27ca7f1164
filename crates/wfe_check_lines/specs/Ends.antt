-- How the reading of a record goes and ends, and what that says of the record.
use Rattle.std.specs.Prelude.{ℕ, ◌≡◌, ◌<◌, List, Option, None, Some, Result, Ok, Err}
use Rattle.std.specs.Io.KnownBytes.{Consumes, IsAtEnd}
use Rattle.laws.specs.records.Record.{Past}
use Rattle.wfe_words.specs.declared.config.Config.{Config}
use Rattle.wfe_check_lines.specs.Reading.{IsGood, Reading, after_bytes, came, finished}
use Rattle.wfe_check_lines.specs.Readers.{IsReading}
use Rattle.wfe_check_lines.specs.Stops.{IsWhy, StopsAmid}
use Rattle.wfe_check_lines.specs.Verdicts.{IsVerdict}
use Rattle.wfe_check_lines.specs.declared.check.Ending.{Ending}
use Rattle.wfe_check_lines.specs.declared.check.Ending.TheVariants as endings
use Rattle.wfe_check_lines.specs.declared.check.Unread.{Unread}
use Rattle.wfe_check_lines.specs.declared.check.Unread.TheVariants as unreads
use Rattle.wfe_check_lines.specs.declared.reader.Reader.{Reader}
use Rattle.wfe_check_lines.specs.declared.stops.Stop.{Stop}
use Rattle.wfe_check_lines.specs.declared.stops.Stop.TheVariants as stops
use Rattle.wfe_check_lines.specs.declared.verdict.Verdict.{Verdict}
use Rattle.wfe_check_lines.specs.declared.verdict.Verdict.TheVariants as verdicts

-- bytes were taken, none of them bad
pub record Goes {J : Type 0} (judges : ℕ → Config → J → Past → Type 0) (before left : Option (List ℕ)) (r : Reading) (reader : Reader J) : Type 0 where
  pub taken : List ℕ
  pub consumed : Consumes before left taken
  pub after : Reading
  pub good : after_bytes (Ok r) taken ≡ Ok after
  pub is : IsReading judges reader after

-- bytes were taken up to a stop
pub record Stops (before left : Option (List ℕ)) (r : Reading) (stop : Stop) : Type 0 where
  pub taken : List ℕ
  pub consumed : Consumes before left taken
  pub amid : StopsAmid r taken stop

-- how the reading ends
abbrev pub Ends : {J : Type 0} → (ℕ → Config → J → Past → Type 0) → Ending → Option (List ℕ) → Option (List ℕ) → Reading → Reader J → Type 0
Ends judges endings.AtEnd before left r reader = Goes judges before left r reader × IsAtEnd left
Ends judges endings.NoRead before left r reader = Goes judges before left r reader
Ends judges (endings.Stopped stop) before left r reader = Stops before left r stop

-- one read, and what came of it
abbrev pub Turns : {J : Type 0} → (ℕ → Config → J → Past → Type 0) → Option Ending → Option (List ℕ) → Option (List ℕ) → Reading → Reader J → Type 0
Turns judges None before left r reader = (g : Goes judges before left r reader) × (r.count < g.after.count)
Turns judges (Some ending) before left r reader = Ends judges ending before left r reader

-- the input's end was taken: so many entries are good, or why it is not
abbrev pub Finishes : Result ℕ Stop → Reading → Type 0
Finishes (Ok count) r = (whole : Reading) × (finished r ≡ Ok whole) × IsGood whole × (count ≡ whole.told.count)
Finishes (Err stop) r = IsWhy stop (finished r)

-- what a stop says
abbrev pub verdict_by : Stop → Result Verdict Unread
verdict_by (stops.Bad bad) = Ok (verdicts.Bad bad)
verdict_by (stops.Unlawful line) = Ok (verdicts.Unlawful line)
verdict_by stops.NoMemory = Err unreads.NoMemory

-- none of the bytes that came is bad, and the entries that they tell are good
pub record IsClean (taken : List ℕ) : Type 0 where
  pub reading : Reading
  pub good_text : came taken ≡ Ok reading
  pub good : IsGood reading

-- the verdict on a record, or why there is none
abbrev pub Gives : List ℕ → Option (List ℕ) → Result Verdict Unread → Type 0
Gives taken left (Ok verdict) = IsVerdict taken left verdict
Gives taken left (Err unreads.Fault) = IsClean taken
Gives taken left (Err unreads.NoMemory) = Unit {0}

-- bytes were taken from the source, and that is what they give
abbrev pub Reads : Option (List ℕ) → Option (List ℕ) → Result Verdict Unread → Type 0
Reads before left result = (taken : List ℕ) × Consumes before left taken × Gives taken left result
