-- What is said of the text that a replay prints: a check finds it lawful.
use Rattle.std.specs.Prelude.{List, None, Option, Some, [], codes, length, ℕ, ◌++◌, ◌≡◌, ◌≤◌, ◌⊎◌, ◌∷◌}
use Rattle.std.specs.Io.KnownBytes.{Appends, Consumes, IsAtEnd}
use Rattle.law_printed.specs.ReadBack.Printed.{IsPrinted}
use Rattle.law_printed.specs.lines.Verdicts.{Checks, IsVerdict, Prints}
use Rattle.law_printed.specs.lines.declared.verdict.Verdict.{Verdict}
use Rattle.law_printed.specs.lines.declared.verdict.Verdict.TheVariants as verdicts
use Rattle.law_printed.specs.lines.out.Pieces.{Text, heard_of, text_of}
use Rattle.law_printed.specs.lines.out.Sizes.{AreSized}
use Rattle.law_printed.specs.Versions.{BeginsIn, IsOfVersion}
use Rattle.wfe_server_replay.specs.Given.{Given, given_out, given_record, past_entries}
use Rattle.laws.specs.HistoryHolds.{IndexLaw}
use Rattle.laws.specs.HistoryTable.{GuardsOfTable, RangeLaw}
use Rattle.laws.specs.Laws.{Laws}
use Rattle.laws.specs.records.Record.{Past}
use Rattle.laws.specs.words.Config.{bad_field}
use Rattle.laws.specs.words.declared.config.Config.{Config}
use Rattle.wfe_trace.specs.declared.reason.Status.{Status}
use Rattle.wfe_trace.specs.declared.reason.Status.TheVariants as statuses

-- A check that reads the text to its end finds it lawful, with so many entries. One that reads from a source which has the text and no
-- more finds nothing else: it prints that, but for a fault of the source or of the sink, or for want of memory.
pub record IsFoundLawful (text : List ℕ) (count : ℕ) : Type 0 where
  pub is : (left : Option (List ℕ)) → IsAtEnd left → IsVerdict text left (verdicts.Lawful count)
  pub only : (taken : List ℕ) (left : Option (List ℕ)) (verdict : Verdict) → Consumes (Some text) left taken → IsVerdict taken left verdict → verdict ≡ verdicts.Lawful count
  pub prints : (status : Status) (left old new : Option (List ℕ)) → Checks status (Some text) left old new
      → Prints status (verdicts.Lawful count) old new ⊎ (status ≡ statuses.ReadFault) ⊎ (status ≡ statuses.NoMemory)

-- what was written is found lawful, if it has at most as many bytes as a record may have
abbrev pub WritesLawful : (old new : Option (List ℕ)) → (count : ℕ) → Type 0
WritesLawful old new count = (text : List ℕ) × Appends old new text × (length text ≤ 1073741824 → IsFoundLawful text count)

-- what is known of the record of a history
pub record IsKept (config : Config) (r : Past) : Type 0 where
  pub laws : Laws config r
  pub ranges : RangeLaw config r
  pub guards : GuardsOfTable config r
  pub indexes : IndexLaw r

-- The lines of a trace, all taken, and what is put out of them: their record, and last the rows of the watchers and that the work is done.
pub record IsPutOut (given : Given) (watched text : List ℕ) : Type 0 where
  pub versions : IsOfVersion given
  pub begins : BeginsIn given
  pub config : bad_field given.config ≡ None
  pub kept : IsKept given.config (given_record given)
  pub record_is : heard_of (given_out given) ≡ past_entries (given_record given)
  pub sized : AreSized (given_out given)
  pub rows : IsPrinted given.version given.config (Text watched)
  pub is : text ≡ text_of (given_out given ++ Text watched ∷ Text (codes "done\n") ∷ [])

-- what a replay puts out where its work is done is found lawful, with as many entries as the record of its history has
abbrev pub PrintsLawful : Type 0
PrintsLawful =
    (given : Given) (watched text : List ℕ) → IsPutOut given watched text → length text ≤ 1073741824
    → IsFoundLawful text (length (past_entries (given_record given)))
