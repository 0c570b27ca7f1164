-- What a generated trace comes to, and what is put out of it.
use Rattle.std.specs.Prelude.{List, ℕ, ◌≡◌}
use Rattle.std.specs.Io.KnownBytes.{Appends}
use Rattle.wfe_core.specs.Locals.{stays}
use Rattle.wfe_outside.specs.defs.declared.command.Command.{Command}
use Rattle.wfe_outside.specs.defs.Entry.{Entry}
use Rattle.wfe_server_out.specs.Heard.{Hears, HearsSome, Seen}
use Rattle.wfe_server_out.specs.Some.{AppendsSome}
use Rattle.wfe_trace.specs.declared.reason.Status.{Status}
use Rattle.wfe_trace.specs.declared.reason.Status.TheVariants as statuses
use Rattle.wfe_server_replay.specs.Given.{IsTaken, given_record, past_entries}
use Rattle.wfe_server_replay.specs.Sunk.{Outside}
use Rattle.wfe_server_gen.specs.Report.{report}
use Rattle.wfe_server_gen.specs.Summary.{summary_of}
use Rattle.wfe_server_gen.specs.Turns.{generated, trace_of}

-- the record of the one history of the lines
abbrev pub entries_of : List Command → List Entry
entries_of lines = past_entries (given_record (trace_of lines))

-- what a status says, where the trace has these entries and the watchers' rows these lines
abbrev pub Says : {W : Type 0} → Seen W → Status → (watched : List ℕ) → List Entry → Outside W → Outside W → Type 0
Says seen statuses.Done watched told old new = Appends old.written new.written (report (summary_of told) watched) × Hears seen old.watchers new.watchers told
Says seen statuses.Usage watched told old new = ⊥
Says seen (statuses.BadTrace line reason) watched told old new = ⊥
Says seen (statuses.Unlawful line) watched told old new = ⊥
Says seen (statuses.BadRecord line reason) watched told old new = ⊥
Says seen statuses.ReadFault watched told old new = ⊥
Says seen statuses.WriteFault watched told old new = AppendsSome old.written new.written (report (summary_of told) watched) × Hears seen old.watchers new.watchers told
Says seen statuses.NoMemory watched told old new = (new.written ≡ old.written) × HearsSome seen old.watchers new.watchers told

-- The lines of so many turns of a seed are a trace of seats that stay, which is taken, and what is put out tells of its record.
pub record Generates {W : Type 0} (seen : Seen W) (status : Status) (seed turns : ℕ) (watched : List ℕ) (old new : Outside W) : Type 0 where
  pub taken : IsTaken stays (trace_of (generated seed turns))
  pub says : Says seen status watched (entries_of (generated seed turns)) old new
