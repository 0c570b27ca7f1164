-- The commands of the program.
use Rattle.wfe_server_out.specs.Heard.{Seen}
use Rattle.std.specs.Prelude.{Bool, true, ◌≡◌, ◌≤◌, ◌⊎◌, ℕ, List, Option, Some, Ok, codes}
use Rattle.std.specs.Io.KnownBytes.{Appends}
use Rattle.wfe_check.specs.lines.Verdicts.{Checks}
use Rattle.wfe_job.specs.Jobs.{most_turns}
use Rattle.wfe_job.specs.declared.job.Job.{Job}
use Rattle.wfe_job.specs.declared.job.Job.TheVariants as jobs
use Rattle.wfe_server_gen.specs.Generated.{Generates}
use Rattle.wfe_trace.specs.declared.reason.Status.{Status}
use Rattle.wfe_trace.specs.declared.reason.Status.TheVariants as statuses
use Rattle.wfe_server_out.specs.Some.{AppendsSome}
use Rattle.wfe_server_gen.specs.server_replay.Given.{Given}
use Rattle.wfe_server_gen.specs.server_replay.Replay.{Replays, whole}
use Rattle.wfe_server_gen.specs.server_replay.Sunk.{Outside}
use Rattle.wfe_server_gen.specs.server_replay.Trace.{Progress}
use Rattle.wfe_server.specs.Runs.{Runs}
use Rattle.wfe_defs.specs.declared.call.Call.{Call}

-- the calls that a replay makes: all
abbrev pub made_calls : Call → Bool
made_calls call = true

-- a job that the words can ask for
abbrev pub Allowed : Job → Type 0
Allowed jobs.Replay = Unit {0}
Allowed jobs.Run = Unit {0}
Allowed jobs.Check = Unit {0}
Allowed (jobs.Generate seed turns) = turns ≤ most_turns

-- what a job does
abbrev pub Does : (makes : Call → Bool) → {W : Type 0} → Seen W → Job → Status → (watched : List ℕ) → Option (List ℕ) → Option (List ℕ) → Outside W → Outside W → Type 0
Does makes seen jobs.Replay status watched before left old new = Replays makes seen status watched before left old new
Does makes seen jobs.Run status watched before left old new = Runs seen status watched before left old new
Does makes seen jobs.Check status watched before left old new = Checks status before left old.written new.written
Does makes seen (jobs.Generate seed turns) status watched before left old new = Generates seen status seed turns watched old new

-- the line that lists the commands
abbrev pub usage_line : List ℕ
usage_line = codes "usage: wfe replay | run | gen SEED N | check\n"

-- the words are no command: the usage line was written, or a part of it and the sink failed, or memory ran out before
abbrev pub Refuses : Status → Option (List ℕ) → Option (List ℕ) → Type 0
Refuses status old new =
    ((status ≡ statuses.Usage) × Appends old new usage_line)
    ⊎ ((status ≡ statuses.WriteFault) × AppendsSome old new usage_line)
    ⊎ ((status ≡ statuses.NoMemory) × (new ≡ old))

-- where the sink's count of faults did not rise, the summary is written or memory ran out
abbrev pub IsGenerated : Status → (write_rose : Type 0) → Type 0
IsGenerated status write_rose = (write_rose → ⊥) → (status ≡ statuses.Done) ⊎ (status ≡ statuses.NoMemory)

-- where the source tells a trace in the grammar, and neither count of faults rose, the work is done or memory ran out
abbrev pub IsComplete : (makes : Call → Bool) → Status → Option (List ℕ) → (read_rose write_rose : Type 0) → Type 0
IsComplete makes status left read_rose write_rose =
    (bytes : List ℕ) (progress : Progress Given) → left ≡ Some bytes → whole makes bytes ≡ Ok progress → (read_rose → ⊥) → (write_rose → ⊥) →
    (status ≡ statuses.Done) ⊎ (status ≡ statuses.NoMemory)

-- the number with which the program ends
abbrev pub status_number : Status → ℕ
status_number statuses.Done = 0
status_number (statuses.Unlawful line) = 1
status_number statuses.Usage = 2
status_number (statuses.BadTrace line reason) = 3
status_number statuses.ReadFault = 4
status_number statuses.WriteFault = 5
status_number statuses.NoMemory = 6
status_number (statuses.BadRecord line reason) = 7
