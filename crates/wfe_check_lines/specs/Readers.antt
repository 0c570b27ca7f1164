-- A reader as it stands for the bytes that it took, and what it makes of more.
use Rattle.std.specs.Prelude.{ℕ, ◌≡◌, ◌≢◌, ◌<◌, ◌≤◌, ◌+◌, ◌++◌, List, [], Result, Ok, Err, length, slice_index, take}
use Rattle.laws.specs.records.Record.{Past}
use Rattle.wfe_words.specs.declared.config.Config.{Config}
use Rattle.wfe_check_lines.specs.Progress.{IsAt}
use Rattle.wfe_check_lines.specs.Reading.{Reading, after_bytes}
use Rattle.wfe_check_lines.specs.Stops.{IsWhy, StopsAmid}
use Rattle.wfe_check_lines.specs.declared.reader.Reader.{Reader}
use Rattle.wfe_check_lines.specs.declared.stops.BadLine.{BadLine}
use Rattle.wfe_check_lines.specs.declared.stops.Refusal.{Refusal}
use Rattle.wfe_check_lines.specs.declared.stops.Refusal.TheVariants as refusals
use Rattle.wfe_check_lines.specs.declared.stops.Stop.{Stop}
use Rattle.wfe_check_lines.specs.declared.stops.Stop.TheVariants as stops

-- it is the record's reading, and its judge stands for the entries
pub record IsReading {J : Type 0} (judges : ℕ → Config → J → Past → Type 0) (reader : Reader J) (r : Reading) : Type 0 where
  pub line : reader.line.items ≡ r.line
  pub count : reader.count ≡ r.count
  pub few : r.count ≤ 1073741824
  pub lines : reader.lines ≡ r.lines
  pub within : r.lines + length r.line ≤ r.count
  pub entries : reader.entries ≡ r.told.count
  pub fewer : r.told.count ≤ r.lines
  pub place : IsAt judges reader.place r.told.stage r.told.entries

-- why no more is taken after so many lines, where the next one is refused so
abbrev pub stop_at : (lines : ℕ) → Refusal → Stop
stop_at lines (refusals.Bad reason) = stops.Bad (record { line = lines + 1; reason = reason })
stop_at lines refusals.Unlawful = stops.Unlawful (lines + 1)
stop_at lines refusals.NoMemory = stops.NoMemory

-- it was taken further, or why it is not
abbrev pub Takes : {J T : Type 0} → (ℕ → Config → J → Past → Type 0) → Result T Stop → Result Reading BadLine → Reader J → Type 0
Takes judges (Ok x) next now = (after : Reading) × (next ≡ Ok after) × IsReading judges now after
Takes judges (Err stop) next now = IsWhy stop next

-- these bytes were taken, or some of them and then no more
abbrev pub TakesBytes : {J T : Type 0} → (ℕ → Config → J → Past → Type 0) → Result T Stop → Reading → List ℕ → Reader J → Type 0
TakesBytes judges (Ok x) r bytes now = (after : Reading) × (after_bytes (Ok r) bytes ≡ Ok after) × IsReading judges now after
TakesBytes judges (Err stop) r bytes now = StopsAmid r bytes stop

-- these bytes go to the line under way
abbrev pub more_bytes : Reading → List ℕ → Reading
more_bytes r bytes = record r { line = r.line ++ bytes; count = r.count + length bytes }

-- no line is under way, and the bytes begin with one whose line feed is here: with it neither the line nor the record is too long
pub record BeginsWithLine (r : Reading) (bytes : List ℕ) (at : ℕ) : Type 0 where
  pub none : r.line ≡ []
  pub within : at < length bytes
  pub feed : slice_index bytes at ≡ 10
  pub before : (k : ℕ) → k < at → slice_index bytes k ≢ 10
  pub short : at ≤ 200
  pub few : r.count + at < 1073741824

-- the first of these bytes were taken, so many, or some of them and then no more
abbrev pub TakesSome : {J : Type 0} → (ℕ → Config → J → Past → Type 0) → Result ℕ Stop → Reading → List ℕ → Reader J → Type 0
TakesSome judges (Ok count) r bytes now = (after : Reading) × (after_bytes (Ok r) (take count bytes) ≡ Ok after) × IsReading judges now after
TakesSome judges (Err stop) r bytes now = StopsAmid r bytes stop
