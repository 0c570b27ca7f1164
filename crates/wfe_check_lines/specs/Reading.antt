-- A record's text as its bytes come: its lines, and the entries that they tell.
use Rattle.std.specs.Prelude.{ℕ, ◌+◌, ◌==◌, ◌++◌, nat_le, if◌then◌else◌, List, [], ◌∷◌, length, Option, Some, None, Result, Ok, Err}
use Rattle.laws.specs.Good.{Good}
use Rattle.laws.specs.records.Record.{Past}
use Rattle.laws.specs.records.Record.Past.{Start, Then}
use Rattle.wfe_words.specs.declared.config.Config.{Config}
use Rattle.wfe_trace.specs.Words.{words}
use Rattle.wfe_trace.specs.declared.reason.RecordReason.{RecordReason}
use Rattle.wfe_trace.specs.declared.reason.RecordReason.TheVariants as reasons
use Rattle.wfe_record.specs.record_words.HeaderReader.{header_in}
use Rattle.wfe_check_lines.specs.Kinds.{kind_in}
use Rattle.wfe_check_lines.specs.declared.kind.Kind.{Kind}
use Rattle.wfe_check_lines.specs.declared.kind.Kind.TheVariants as kinds
use Rattle.wfe_check_lines.specs.declared.stops.BadLine.{BadLine}

-- Where a record is. `First`: before its first line; `Body`: after it, and its version and setting; `Over`: after its last line
pub data Stage : Type 0 where
  First : Stage
  Body : (version : ℕ) → (config : Config) → Stage
  Over : (version : ℕ) → (config : Config) → Stage

-- what the whole lines of a record told
pub record Told : Type 0 where
  pub stage : Stage
  pub entries : Past
  -- how many these are
  pub count : ℕ

abbrev pub nothing_told : Told
nothing_told = record { stage = First; entries = Start; count = 0 }

abbrev pub with_header : Told → Option (ℕ × Config) → Result Told RecordReason
with_header told None = Err reasons.Header
with_header told (Some header) = Ok (record told { stage = Body header.0 header.1 })

abbrev pub with_kind : ℕ → Config → Told → Option Kind → Result Told RecordReason
with_kind version config told None = Err reasons.Form
with_kind version config told (Some (kinds.Entry seat event)) = Ok (record told { entries = Then told.entries seat event; count = told.count + 1 })
with_kind version config told (Some kinds.Shown) = Ok told
with_kind version config told (Some kinds.Last) = Ok (record told { stage = Over version config })

-- after a whole line: the first is a header, no line follows the last one, and each between has a form of its own
abbrev pub told_at : Stage → Told → List ℕ → Result Told RecordReason
told_at First told line = with_header told (header_in (words line))
told_at (Body version config) told line = with_kind version config told (kind_in version config (words line))
told_at (Over version config) told line = Err reasons.Form

abbrev pub told_after : Told → List ℕ → Result Told RecordReason
told_after told line = told_at told.stage told line

-- a record of which some bytes came: the bytes of the line under way, how many bytes came, how many lines are whole, and what they told
pub record Reading : Type 0 where
  pub line : List ℕ
  pub count : ℕ
  pub lines : ℕ
  pub told : Told

-- no byte came
abbrev pub reading_start : Reading
reading_start = record { line = []; count = 0; lines = 0; told = nothing_told }

-- the line under way is bad
abbrev pub bad_line : Reading → RecordReason → BadLine
bad_line r reason = record { line = r.lines + 1; reason = reason }

-- why the next byte is bad, whatever it ends: the record is too long, or its line
abbrev pub byte_refused : Reading → ℕ → Option RecordReason
byte_refused r b =
    if nat_le 1073741824 r.count then Some reasons.LongRecord else
    if b == 10 then None else
    if nat_le 200 (length r.line) then Some reasons.LongLine else None

abbrev pub with_line : Reading → Result Told RecordReason → Result Reading BadLine
with_line r (Err reason) = Err (bad_line r reason)
with_line r (Ok told) = Ok (record r { line = []; lines = r.lines + 1; told = told })

-- the line under way is whole
abbrev pub after_line : Reading → Result Reading BadLine
after_line r = with_line r (told_after r.told r.line)

-- one more byte is counted
abbrev pub counted : Reading → Reading
counted r = record r { count = r.count + 1 }

abbrev pub after_good_byte : Reading → ℕ → Option RecordReason → Result Reading BadLine
after_good_byte r b (Some reason) = Err (bad_line r reason)
after_good_byte r b None = if b == 10 then after_line (counted r) else Ok (record (counted r) { line = r.line ++ b ∷ [] })

-- a line feed ends the line under way
abbrev pub after_byte : Reading → ℕ → Result Reading BadLine
after_byte r b = after_good_byte r b (byte_refused r b)

infixl 10 ◌then◌
abbrev pub ◌then◌ : Result Reading BadLine → (Reading → Result Reading BadLine) → Result Reading BadLine
(Ok r) then f = f r
(Err bad) then f = Err bad

-- after the bytes, in order, up to the first bad one
abbrev pub after_bytes : Result Reading BadLine → List ℕ → Result Reading BadLine
after_bytes x [] = x
after_bytes x (b ∷ bs) = after_bytes (x then (λ r. after_byte r b)) bs

-- bytes after the last line feed are a line too
abbrev pub after_last : Reading → Result Reading BadLine
after_last r = if length r.line == 0 then Ok r else after_line r

abbrev pub at_stage : Stage → Reading → Result Reading BadLine
at_stage First r = Err (bad_line r reasons.Header)
at_stage stage r = Ok r

-- the input ends: anywhere, but for before a first line
abbrev pub finished : Reading → Result Reading BadLine
finished r = after_last r then (λ q. at_stage q.told.stage q)

-- the bytes that came, from the first on
abbrev pub came : List ℕ → Result Reading BadLine
came bytes = after_bytes (Ok reading_start) bytes

-- a record's entries are good, by the laws of its version and under its setting
abbrev pub GoodAt : Stage → Past → Type 0
GoodAt First entries = Unit {0}
GoodAt (Body version config) entries = Good version config entries
GoodAt (Over version config) entries = Good version config entries

-- so are those that were told so far
abbrev pub IsGood : Reading → Type 0
IsGood r = GoodAt r.told.stage r.told.entries
