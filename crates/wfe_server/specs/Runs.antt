-- What a run of a trace puts out, and when it ends how.
use Rattle.std.specs.Prelude.{List, None, Ok, Option, Some, [], length, ℕ, ◌≡◌, ◌∷◌, ◌⊎◌}
use Rattle.std.specs.Io.KnownBytes.{Appends, Consumes}
use Rattle.wfe_table.specs.all.RunLaw.{AtClose}
use Rattle.wfe_outside.specs.defs.declared.event.Event.{Event}
use Rattle.wfe_server_out.specs.Heard.{Seen}
use Rattle.wfe_server_out.specs.Pieces.{Text}
use Rattle.wfe_server_out.specs.Some.{AppendsSome}
use Rattle.wfe_server_replay.specs.Sunk.{Outside, Puts, PutsPart}
use Rattle.wfe_server_replay.specs.Trace.{Progress}
use Rattle.wfe_server.specs.Comes.{Comes}
use Rattle.wfe_server.specs.Prints.{Prints}
use Rattle.wfe_server.specs.Reads.{IsBad, IsCut, IsRead, whole}
use Rattle.wfe_server_lines.specs.Scripted.{Scripted}
use Rattle.wfe_server.specs.Text.{run_pieces}
use Rattle.wfe_trace.specs.Record.{bad_line as bad_text}
use Rattle.wfe_trace.specs.declared.reason.BadLine.{BadLine}
use Rattle.wfe_trace.specs.declared.reason.Status.{Status}
use Rattle.wfe_trace.specs.declared.reason.Status.TheVariants as statuses
use Rattle.wfe_trace.specs.words.Config.{bad_field}

-- Workers made these scripts, and what they made was put out, or a first part of it up to a fault.
pub record IsPrinted {W : Type 0} (seen : Seen W) (status : Status) (watched : List ℕ) (given : Scripted) (old new : Outside W) : Type 0 where
  pub seats : List (List Event)
  pub closed : AtClose
  pub comes : Comes given.config given.scripts seats closed
  pub prints : Prints seen status watched old new (run_pieces given.version given.config seats closed)

-- The trace is in the grammar, and was read to its end. Its lines give scripts, one for each seat, of a setting in its ranges; that
-- is what was made and printed.
pub record HasRun {W : Type 0} (seen : Seen W) (status : Status) (watched taken : List ℕ) (left : Option (List ℕ)) (old new : Outside W) : Type 0 where
  pub given : Scripted
  pub read : IsRead taken left given
  pub config : bad_field given.config ≡ None
  pub scripts : length given.scripts ≡ given.config.seats
  pub printed : IsPrinted seen status watched given old new

-- The trace has this first bad line: that was written, and nothing else. No watcher was told anything.
pub record IsRefused {W : Type 0} (seen : Seen W) (taken : List ℕ) (left : Option (List ℕ)) (old new : Outside W) (bad : BadLine) : Type 0 where
  pub is_bad : IsBad taken left bad
  pub put : Puts seen old new (Text (bad_text bad.line bad.reason) ∷ [])
  pub unheard : new.watchers ≡ old.watchers

-- The same, and the sink failed.
pub record IsHalfRefused {W : Type 0} (seen : Seen W) (taken : List ℕ) (left : Option (List ℕ)) (old new : Outside W) : Type 0 where
  pub bad : BadLine
  pub is_bad : IsBad taken left bad
  pub put : PutsPart seen old new (Text (bad_text bad.line bad.reason) ∷ [])
  pub unheard : new.watchers ≡ old.watchers

-- The first bad line was written, or a part of it and the sink failed.
abbrev pub Refuses : Status → BadLine → Option (List ℕ) → Option (List ℕ) → Type 0
Refuses status bad old new =
    ((status ≡ statuses.BadTrace bad.line bad.reason) × Appends old new (bad_text bad.line bad.reason)) ⊎ ((status ≡ statuses.WriteFault) × AppendsSome old new (bad_text bad.line bad.reason))

-- what a status says, where these bytes were taken from the source and the watchers' rows are these lines
abbrev pub Says : {W : Type 0} → Seen W → Status → (watched taken : List ℕ) → Option (List ℕ) → Outside W → Outside W → Type 0
Says seen statuses.Done watched taken left old new = HasRun seen statuses.Done watched taken left old new
Says seen statuses.Usage watched taken left old new = ⊥
Says seen (statuses.BadTrace line reason) watched taken left old new = IsRefused seen taken left old new (record { line = line; reason = reason })
Says seen (statuses.Unlawful line) watched taken left old new = ⊥
Says seen (statuses.BadRecord line reason) watched taken left old new = ⊥
Says seen statuses.ReadFault watched taken left old new = IsCut taken × (new ≡ old)
Says seen statuses.WriteFault watched taken left old new = HasRun seen statuses.WriteFault watched taken left old new ⊎ IsHalfRefused seen taken left old new
Says seen statuses.NoMemory watched taken left old new = HasRun seen statuses.NoMemory watched taken left old new ⊎ (new ≡ old)

-- a run took bytes from the source, and its status says what they are and what was put out
abbrev pub Runs : {W : Type 0} → Seen W → Status → (watched : List ℕ) → Option (List ℕ) → Option (List ℕ) → Outside W → Outside W → Type 0
Runs seen status watched before left old new = (taken : List ℕ) × Consumes before left taken × Says seen status watched taken left old new

-- where the source tells a trace in the grammar, and neither count of faults rose, the work is done or memory ran out
abbrev pub IsComplete : Status → Option (List ℕ) → (read_rose write_rose : Type 0) → Type 0
IsComplete status left read_rose write_rose =
    (bytes : List ℕ) (progress : Progress Scripted) → left ≡ Some bytes → whole bytes ≡ Ok progress → (read_rose → ⊥) → (write_rose → ⊥) → (status ≡ statuses.Done) ⊎ (status ≡ statuses.NoMemory)
