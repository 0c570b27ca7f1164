-- What the commands promise: that a record is the record of one history of the model, which is lawful.
use Rattle.wfe_server_out.specs.Heard.{Hears, Seen}
use Rattle.law_printed.specs.Printed.{WritesLawful}
use Rattle.std.specs.Prelude.{Bool, List, None, Ok, Option, Some, [], ℕ, ◌++◌, ◌≡◌, length, ◌<◌}
use Rattle.std.specs.Io.KnownBytes.{Consumes, IsAtEnd}
use Rattle.wfe_defs.specs.Entry.{Entry}
use Rattle.wfe_server_gen.specs.Generated.{Generates}
use Rattle.wfe_server_gen.specs.Turns.{generated, trace_of}
use Rattle.wfe_server_out.specs.Pieces.{heard_of}
use Rattle.wfe_trace.specs.declared.reason.BadLine.{BadLine}
use Rattle.wfe_trace.specs.declared.reason.Status.{Status}
use Rattle.wfe_trace.specs.declared.reason.Status.TheVariants as statuses
use Rattle.wfe_server_gen.specs.server_replay.Given.{Given, IsTaken, given_out, given_record, given_waiting, items, layout_of, past_entries}
use Rattle.wfe_server_gen.specs.server_replay.Replay.{IsCutOff, IsRefused, IsReplayed, IsStopped, all_lines, closed_lines, whole}
use Rattle.wfe_server_gen.specs.server_replay.Sunk.{Outside}
use Rattle.wfe_server_gen.specs.server_replay.Trace.{Progress}
use Rattle.wfe_server.specs.all.Whole.{IsLawful}
use Rattle.law_printed.specs.laws.Lists.{list_of}
use Rattle.law_printed.specs.watch.Lists.{waiting_at}
use Rattle.wfe_defs.specs.declared.call.Call.{Call}

-- the history of the lines is lawful, and what is put out of it tells the entries of its record, in order; and of each seat a line of
-- counts tells as waiting how many rows its list has
pub record HasLaws (given : Given) : Type 0 where
  pub lawful : IsLawful (layout_of given) (items given)
  pub record_is : heard_of (given_out given) ≡ past_entries (given_record given)
  pub waiting : (seat : ℕ) → seat < given.config.seats → waiting_at (given_waiting given) seat ≡ length (list_of seat (given_record given))

-- the history of the lines of a part of a trace is lawful, where the line `begin` is among them
abbrev pub AreLawful : Option Given → Type 0
AreLawful None = Unit {0}
AreLawful (Some given) = HasLaws given

-- the entries of its record
abbrev pub entries_in : Option Given → List Entry
entries_in None = []
entries_in (Some given) = past_entries (given_record given)

-- The whole record was put out, each watcher has heard it, and it is lawful.
pub record IsDone (makes : Call → Bool) {W : Type 0} (seen : Seen W) (watched taken : List ℕ) (left : Option (List ℕ)) (old new : Outside W) : Type 0 where
  pub replayed : IsReplayed makes seen watched taken old new
  pub at_end : IsAtEnd left
  pub heard : Hears seen old.watchers new.watchers (past_entries (given_record replayed.given))
  pub laws : HasLaws replayed.given

-- A line is bad. The record of the lines before it was put out, each watcher has heard it, and it is lawful.
pub record IsBad (makes : Call → Bool) {W : Type 0} (seen : Seen W) (taken : List ℕ) (left : Option (List ℕ)) (old new : Outside W) (bad : BadLine) : Type 0 where
  pub refused : IsRefused makes seen taken left old new bad
  pub heard : Hears seen old.watchers new.watchers (entries_in (all_lines makes taken))
  pub laws : AreLawful (all_lines makes taken)

-- A read failed. The record of the lines that were closed was put out, each watcher has heard it, and it is lawful.
pub record IsUnread (makes : Call → Bool) {W : Type 0} (seen : Seen W) (taken : List ℕ) (old new : Outside W) : Type 0 where
  pub cut_off : IsCutOff makes seen taken old new
  pub heard : Hears seen old.watchers new.watchers (entries_in (closed_lines makes taken))
  pub laws : AreLawful (closed_lines makes taken)

-- A write failed, or memory ran out. The lines that were closed, those of all bytes that were taken, and those of all bytes that the source had, each give a history that is lawful.
pub record IsBroken (makes : Call → Bool) {W : Type 0} (seen : Seen W) (watched taken : List ℕ) (left : Option (List ℕ)) (old new : Outside W) : Type 0 where
  pub stopped : IsStopped makes seen watched taken left old new
  pub closed : AreLawful (closed_lines makes taken)
  pub all : AreLawful (all_lines makes taken)
  pub whole : (rest : List ℕ) → left ≡ Some rest → AreLawful (all_lines makes (taken ++ rest))

-- what a status says, where the record of each trace is lawful
abbrev pub Promises : (makes : Call → Bool) → {W : Type 0} → Seen W → Status → (watched taken : List ℕ) → Option (List ℕ) → Outside W → Outside W → Type 0
Promises makes seen statuses.Done watched taken left old new = IsDone makes seen watched taken left old new
Promises makes seen statuses.Usage watched taken left old new = ⊥
Promises makes seen (statuses.BadTrace line reason) watched taken left old new = IsBad makes seen taken left old new (record { line = line; reason = reason })
Promises makes seen (statuses.Unlawful line) watched taken left old new = ⊥
Promises makes seen (statuses.BadRecord line reason) watched taken left old new = ⊥
Promises makes seen statuses.ReadFault watched taken left old new = IsUnread makes seen taken old new
Promises makes seen statuses.WriteFault watched taken left old new = IsBroken makes seen watched taken left old new
Promises makes seen statuses.NoMemory watched taken left old new = IsBroken makes seen watched taken left old new

-- a replay took bytes from the source, and its status says what they are and what was put out
abbrev pub Keeps : (makes : Call → Bool) → {W : Type 0} → Seen W → Status → (watched : List ℕ) → Option (List ℕ) → Option (List ℕ) → Outside W → Outside W → Type 0
Keeps makes seen status watched before left old new = (taken : List ℕ) × Consumes before left taken × Promises makes seen status watched taken left old new

-- the lines of each part of a trace give a history that is lawful
abbrev pub GivenLawful : (makes : Call → Bool) → Type 0
GivenLawful makes = (given : Given) → IsTaken makes given → HasLaws given

-- the status of a generated trace says what was put out of its record, which is that of a lawful history
pub record Summarizes {W : Type 0} (seen : Seen W) (status : Status) (seed turns : ℕ) (watched : List ℕ) (old new : Outside W) : Type 0 where
  pub made : Generates seen status seed turns watched old new
  pub laws : HasLaws (trace_of (generated seed turns))

-- What a replay has written, where its work is done, a check finds lawful, if it is no longer than a record may be: it has as many
-- entries as the record of the trace's lines.
pub record IsReadBack (makes : Call → Bool) (taken : List ℕ) (old new : Option (List ℕ)) : Type 0 where
  pub given : Given
  pub progress : Progress Given
  pub good : whole makes taken ≡ Ok progress
  pub is_given : progress.engine ≡ Some given
  pub lawful : WritesLawful old new (length (past_entries (given_record given)))

-- so it is with the trace that was taken from the source
abbrev pub ReadsBack : (makes : Call → Bool) → Option (List ℕ) → Option (List ℕ) → (old new : Option (List ℕ)) → Type 0
ReadsBack makes before left old new = (taken : List ℕ) × Consumes before left taken × IsReadBack makes taken old new
