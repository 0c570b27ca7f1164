-- What a replay of a trace puts out, and when it ends how.
use Rattle.wfe_server_out.specs.Heard.{Hears, Seen}
use Rattle.std.specs.Prelude.{Bool, Err, List, Ok, Option, Result, Some, [], codes, ℕ, ◌++◌, ◌≡◌, ◌∷◌, ◌⊎◌}
use Rattle.std.specs.Io.KnownBytes.{Consumes, IsAtEnd}
use Rattle.wfe_server_out.specs.Pieces.{Piece, Text, heard_of}
use Rattle.wfe_trace.specs.declared.item.Mode.TheVariants as modes
use Rattle.wfe_trace.specs.declared.reason.BadLine.{BadLine}
use Rattle.wfe_trace.specs.declared.reason.Status.{Status}
use Rattle.wfe_trace.specs.declared.reason.Status.TheVariants as statuses
use Rattle.wfe_trace.specs.Record.{bad_line as bad_text}
use Rattle.wfe_server_replay.specs.Given.{Given, IsTaken, IsTakenIn, given_out, keeper, partial_out}
use Rattle.wfe_server_replay.specs.Sunk.{Outside, Puts, PutsPart, StopsShort}
use Rattle.wfe_server_replay.specs.Trace.{Progress, after_bytes, after_trace, closing, good_bytes, good_trace, progress_start}
use Rattle.wfe_outside.specs.defs.declared.call.Call.{Call}

-- the bytes that came, judged one by one
abbrev pub came : (makes : Call → Bool) → List ℕ → Result (Progress Given) BadLine
came makes taken = after_bytes (keeper makes) (Ok (progress_start modes.Replay)) taken

-- the bytes as a whole trace
abbrev pub whole : (makes : Call → Bool) → List ℕ → Result (Progress Given) BadLine
whole makes taken = after_trace (keeper makes) modes.Replay taken

-- The lines that the bytes close, before the first bad one: none before the line `begin`.
abbrev pub closed_lines : (makes : Call → Bool) → List ℕ → Option Given
closed_lines makes taken = (good_bytes (keeper makes) (progress_start modes.Replay) taken).engine

-- The lines of a whole trace before its first bad one. Its end closes the last line.
abbrev pub all_lines : (makes : Call → Bool) → List ℕ → Option Given
all_lines makes taken = (good_trace (keeper makes) modes.Replay taken).engine

-- What a whole trace puts out: the record of its lines, then the rows of the watchers and that the work is done, or the first bad line.
abbrev pub whole_output : (makes : Call → Bool) → (watched : List ℕ) → List ℕ → List Piece
whole_output makes watched taken = partial_out (all_lines makes taken) ++ closing watched (whole makes taken)

-- The trace is in the grammar: its lines give this setting and these commands, which are taken; and the whole record of their history was put out.
pub record IsReplayed (makes : Call → Bool) {W : Type 0} (seen : Seen W) (watched taken : List ℕ) (old new : Outside W) : Type 0 where
  pub given : Given
  pub progress : Progress Given
  pub good : whole makes taken ≡ Ok progress
  pub is_given : progress.engine ≡ Some given
  pub is_taken : IsTaken makes given
  pub put : Puts seen old new (given_out given ++ Text watched ∷ Text (codes "done\n") ∷ [])

-- The trace has this first bad line, among the bytes that came or where they end: the record of the lines before it was put out, and then that it is bad.
pub record IsRefused (makes : Call → Bool) {W : Type 0} (seen : Seen W) (taken : List ℕ) (left : Option (List ℕ)) (old new : Outside W) (bad : BadLine) : Type 0 where
  pub first : whole makes taken ≡ Err bad
  pub found : (came makes taken ≡ Err bad) ⊎ IsAtEnd left
  pub are_taken : IsTakenIn makes (all_lines makes taken)
  pub put : Puts seen old new (partial_out (all_lines makes taken) ++ Text (bad_text bad.line bad.reason) ∷ [])

-- None of the bytes that came is bad, and no line that they close; the record of these lines was put out.
pub record IsCutOff (makes : Call → Bool) {W : Type 0} (seen : Seen W) (taken : List ℕ) (old new : Outside W) : Type 0 where
  pub progress : Progress Given
  pub good : came makes taken ≡ Ok progress
  pub are_taken : IsTakenIn makes (closed_lines makes taken)
  pub put : Puts seen old new (partial_out (closed_lines makes taken))

-- one of the bytes is bad, or the end was read
abbrev pub IsFound : (makes : Call → Bool) → List ℕ → Option (List ℕ) → Type 0
IsFound makes taken left = ((bad : BadLine) × (came makes taken ≡ Err bad)) ⊎ IsAtEnd left

-- These lines are the rows of watchers that have heard the record of all bytes: of the present ones, where they have.
abbrev pub AreRows : (makes : Call → Bool) → {W : Type 0} → Seen W → (watched text bytes : List ℕ) → Outside W → Outside W → Type 0
AreRows makes seen watched text bytes old new = Hears seen old.watchers new.watchers (heard_of (partial_out (all_lines makes bytes))) → text ≡ watched

-- A fault stopped the work. No line was put out, not even in part, but those that were closed, and after the end or a bad byte those that stand last. Where the source tells what is left, what was put out is a first part of what all its bytes give, read to their end.
pub record IsStopped (makes : Call → Bool) {W : Type 0} (seen : Seen W) (watched taken : List ℕ) (left : Option (List ℕ)) (old new : Outside W) : Type 0 where
  pub are_closed : IsTakenIn makes (closed_lines makes taken)
  pub are_taken : IsTakenIn makes (all_lines makes taken)
  pub lines : StopsShort seen (IsAtEnd left) (IsFound makes taken left) (partial_out (closed_lines makes taken)) (partial_out (all_lines makes taken)) (closing watched (whole makes taken)) old new
  pub of_all : (rest text : List ℕ) → left ≡ Some rest → AreRows makes seen watched text (taken ++ rest) old new → PutsPart seen old new (whole_output makes text (taken ++ rest))

-- what a status says, where these bytes were taken from the source and the watchers' rows are these lines
abbrev pub Says : (makes : Call → Bool) → {W : Type 0} → Seen W → Status → (watched taken : List ℕ) → Option (List ℕ) → Outside W → Outside W → Type 0
Says makes seen statuses.Done watched taken left old new = IsReplayed makes seen watched taken old new × IsAtEnd left
Says makes seen statuses.Usage watched taken left old new = ⊥
Says makes seen (statuses.BadTrace line reason) watched taken left old new = IsRefused makes seen taken left old new (record { line = line; reason = reason })
Says makes seen (statuses.Unlawful line) watched taken left old new = ⊥
Says makes seen (statuses.BadRecord line reason) watched taken left old new = ⊥
Says makes seen statuses.ReadFault watched taken left old new = IsCutOff makes seen taken old new
Says makes seen statuses.WriteFault watched taken left old new = IsStopped makes seen watched taken left old new
Says makes seen statuses.NoMemory watched taken left old new = IsStopped makes seen watched taken left old new

-- a replay took bytes from the source, and its status says what they are and what was put out
abbrev pub Replays : (makes : Call → Bool) → {W : Type 0} → Seen W → Status → (watched : List ℕ) → Option (List ℕ) → Option (List ℕ) → Outside W → Outside W → Type 0
Replays makes seen status watched before left old new = (taken : List ℕ) × Consumes before left taken × Says makes seen status watched taken left old new
