-- What a record comes to, by its bytes and where they end, and what is written of it.
use Rattle.std.specs.Prelude.{ℕ, ◌≡◌, ◌++◌, ◌∷◌, ◌⊎◌, List, Option, Ok, codes}
use Rattle.std.specs.Io.KnownBytes.{Appends, Consumes, IsAtEnd}
use Rattle.wfe_server_out.specs.Some.{AppendsSome}
use Rattle.wfe_trace.specs.Record.{bad_record_line, count_line}
use Rattle.wfe_trace.specs.declared.reason.Status.{Status}
use Rattle.wfe_trace.specs.declared.reason.Status.TheVariants as statuses
use Rattle.wfe_check_lines.specs.Reading.{IsGood, Reading, after_byte, came, finished}
use Rattle.wfe_check_lines.specs.Stops.{IsWhy}
use Rattle.wfe_check_lines.specs.declared.stops.Stop.{Stop}
use Rattle.wfe_check_lines.specs.declared.stops.Stop.TheVariants as stops
use Rattle.wfe_check_lines.specs.declared.verdict.Verdict.{Verdict}
use Rattle.wfe_check_lines.specs.declared.verdict.Verdict.TheVariants as verdicts

-- the byte after these
pub record IsNext (taken closed : List ℕ) (before : Reading) (stop : Stop) : Type 0 where
  pub byte : ℕ
  pub rest : List ℕ
  pub are : taken ≡ closed ++ byte ∷ rest
  pub why : IsWhy stop (after_byte before byte)

-- the input's end after these
pub record IsEnd (taken closed : List ℕ) (left : Option (List ℕ)) (before : Reading) (stop : Stop) : Type 0 where
  pub all : taken ≡ closed
  pub at_end : IsAtEnd left
  pub why : IsWhy stop (finished before)

-- Of the first bytes none is bad, and the entries that they tell are good; the next byte, or the input's end after them, is why the
-- record is taken no further.
pub record IsStopped (taken : List ℕ) (left : Option (List ℕ)) (stop : Stop) : Type 0 where
  pub closed : List ℕ
  pub before : Reading
  pub good_text : came closed ≡ Ok before
  pub good : IsGood before
  pub stopped : IsNext taken closed before stop ⊎ IsEnd taken closed left before stop

-- The record was read to its end. It has a first line, each line is in form, and its entries, so many, are good.
pub record IsLawful (taken : List ℕ) (left : Option (List ℕ)) (count : ℕ) : Type 0 where
  pub last : Reading
  pub whole : Reading
  pub good_text : came taken ≡ Ok last
  pub ends : finished last ≡ Ok whole
  pub good : IsGood whole
  pub counted : count ≡ whole.told.count
  pub at_end : IsAtEnd left

abbrev pub IsVerdict : List ℕ → Option (List ℕ) → Verdict → Type 0
IsVerdict taken left (verdicts.Lawful count) = IsLawful taken left count
IsVerdict taken left (verdicts.Bad bad) = IsStopped taken left (stops.Bad bad)
IsVerdict taken left (verdicts.Unlawful line) = IsStopped taken left (stops.Unlawful line)

-- the one line that is written
abbrev pub text_of : Verdict → List ℕ
text_of (verdicts.Lawful count) = count_line (codes "lawful") count
text_of (verdicts.Bad bad) = bad_record_line bad.line bad.reason
text_of (verdicts.Unlawful line) = count_line (codes "unlawful") line

abbrev pub status_of : Verdict → Status
status_of (verdicts.Lawful count) = statuses.Done
status_of (verdicts.Bad bad) = statuses.BadRecord bad.line bad.reason
status_of (verdicts.Unlawful line) = statuses.Unlawful line

-- the verdict's line was written, or a first part of it and the sink failed
abbrev pub Prints : Status → Verdict → Option (List ℕ) → Option (List ℕ) → Type 0
Prints status verdict old new =
    ((status ≡ status_of verdict) × Appends old new (text_of verdict)) ⊎ ((status ≡ statuses.WriteFault) × AppendsSome old new (text_of verdict))

-- the record has come to this, and that was written
pub record IsJudged (status : Status) (taken : List ℕ) (left : Option (List ℕ)) (old new : Option (List ℕ)) : Type 0 where
  pub verdict : Verdict
  pub is : IsVerdict taken left verdict
  pub prints : Prints status verdict old new

-- A read failed. None of the bytes that came is bad, the entries that they tell are good, and nothing was written.
pub record IsCut (status : Status) (taken : List ℕ) (old new : Option (List ℕ)) : Type 0 where
  pub reported : status ≡ statuses.ReadFault
  pub reading : Reading
  pub good_text : came taken ≡ Ok reading
  pub good : IsGood reading
  pub unwritten : new ≡ old

-- memory ran out, and nothing was written
abbrev pub IsSpent : Status → Option (List ℕ) → Option (List ℕ) → Type 0
IsSpent status old new = (status ≡ statuses.NoMemory) × (new ≡ old)

-- bytes were taken from the source, and the status says what they come to, and what was written
abbrev pub Checks : Status → Option (List ℕ) → Option (List ℕ) → Option (List ℕ) → Option (List ℕ) → Type 0
Checks status before left old new =
    (taken : List ℕ) × Consumes before left taken × (IsJudged status taken left old new ⊎ IsCut status taken old new ⊎ IsSpent status old new)

-- where neither count of faults rose, the verdict's line was written, or memory ran out
abbrev pub IsAnswered : Status → (read_rose write_rose : Type 0) → Type 0
IsAnswered status read_rose write_rose =
    (read_rose → ⊥) → (write_rose → ⊥) → ((verdict : Verdict) × (status ≡ status_of verdict)) ⊎ (status ≡ statuses.NoMemory)
