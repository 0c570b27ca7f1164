-- What a job does, by what the words ask for; and that nothing is done where memory runs out before.
use Rattle.wfe_server_out.specs.Heard.{Seen}
use Rattle.std.proofs.Common.{Bool, List, [], Option, Some, inr, ℕ, ◌≡◌, refl, sym}
use Rattle.std.proofs.KnownBytes.{Consumes-nil}
use Rattle.wfe_job.specs.declared.job.Job.{Job}
use Rattle.wfe_job.specs.declared.job.Job.TheVariants as jobs
use Rattle.wfe_server_gen.specs.Generated.{Generates}
use Rattle.wfe_server_gen.proofs.History.{generated_taken}
use Rattle.wfe_server_out.proofs.Hearing.{hears_some_none}
use Rattle.wfe_server_gen.proofs.server_replay.Says.{stopped_before}
use Rattle.wfe_trace.specs.declared.reason.Status.{Status}
use Rattle.wfe_trace.specs.declared.reason.Status.TheVariants as statuses
use Rattle.wfe_server_gen.specs.server_replay.Replay.{Replays}
use Rattle.wfe_server_gen.specs.server_replay.Sunk.{Outside}
use Rattle.wfe_server.specs.Runs.{Runs}
use Rattle.wfe_check.specs.lines.Verdicts.{Checks}
use Rattle.wfe_cli.specs.Command.{Does}
use Rattle.wfe_cli.specs.Headline.{Keeps, Summarizes}
use Rattle.wfe_cli.proofs.Headline.{broken_of, summarizes_of}
use Rattle.wfe_defs.specs.declared.call.Call.{Call}

-- the job is the one that the words ask for
pub job_is : (job other : Job) (a : Option Job) → Some job ≡ a → a ≡ Some other → job ≡ other
job_is job other a e h = let both : Some job ≡ Some other = cc in cc

pub replays_as : (makes : Call → Bool) {W : Type 0} (seen : Seen W) (job : Job) (a : Option Job) (status : Status) (watched : List ℕ) (before left : Option (List ℕ)) (old new : Outside W) →
    Some job ≡ a → a ≡ Some jobs.Replay → Does makes seen job status watched before left old new → Replays makes seen status watched before left old new
replays_as makes seen job a status watched before left old new e h does = rw (job_is job jobs.Replay a e h) at does

pub summarizes_as : (makes : Call → Bool) {W : Type 0} (seen : Seen W) (job : Job) (a : Option Job) (seed turns : ℕ) (status : Status) (watched : List ℕ) (before left : Option (List ℕ)) (old new : Outside W) →
    Some job ≡ a → a ≡ Some (jobs.Generate seed turns) → Does makes seen job status watched before left old new → Summarizes seen status seed turns watched old new
summarizes_as makes seen job a seed turns status watched before left old new e h does =
    let made : Generates seen status seed turns watched old new = rw (job_is job (jobs.Generate seed turns) a e h) at does in
    summarizes_of seen status seed turns watched old new made

pub runs_as : (makes : Call → Bool) {W : Type 0} (seen : Seen W) (job : Job) (a : Option Job) (status : Status) (watched : List ℕ) (before left : Option (List ℕ)) (old new : Outside W) →
    Some job ≡ a → a ≡ Some jobs.Run → Does makes seen job status watched before left old new → Runs seen status watched before left old new
runs_as makes seen job a status watched before left old new e h does = rw (job_is job jobs.Run a e h) at does

pub checks_as : (makes : Call → Bool) {W : Type 0} (seen : Seen W) (job : Job) (a : Option Job) (status : Status) (watched : List ℕ) (before left : Option (List ℕ)) (old new : Outside W) →
    Some job ≡ a → a ≡ Some jobs.Check → Does makes seen job status watched before left old new → Checks status before left old.written new.written
checks_as makes seen job a status watched before left old new e h does = rw (job_is job jobs.Check a e h) at does

pub untold_by : (job : Job) (a : Option Job) {X : Type 0} → Some job ≡ a → a ≡ Some jobs.Check → (job ≡ jobs.Check → X) → X
untold_by job a e h x = x (job_is job jobs.Check a e h)

-- a job that reads nothing
pub unread_by : (job : Job) (a : Option Job) {X : Type 0} → Some job ≡ a → (a ≡ Some jobs.Replay → ⊥) → (a ≡ Some jobs.Run → ⊥) → (a ≡ Some jobs.Check → ⊥) → ((seed turns : ℕ) → job ≡ jobs.Generate seed turns → X) → X
unread_by jobs.Replay a e replays runs checks x = absurd (replays (sym e))
unread_by jobs.Run a e replays runs checks x = absurd (runs (sym e))
unread_by jobs.Check a e replays runs checks x = absurd (checks (sym e))
unread_by (jobs.Generate seed turns) a e replays runs checks x = x seed turns refl

pub nothing_checked : (left written : Option (List ℕ)) → Checks statuses.NoMemory left left written written
nothing_checked left written = ([], Consumes-nil left, inr (inr (refl, refl)))

pub nothing_run : {W : Type 0} (seen : Seen W) (watched : List ℕ) (left : Option (List ℕ)) (out : Outside W) → Runs seen statuses.NoMemory watched left left out out
nothing_run seen watched left out = ([], Consumes-nil left, inr refl)

pub nothing_kept : (makes : Call → Bool) {W : Type 0} (seen : Seen W) (watched : List ℕ) (left : Option (List ℕ)) (out : Outside W) → Keeps makes seen statuses.NoMemory watched left left out out
nothing_kept makes seen watched left out = ([], Consumes-nil left, broken_of makes seen watched [] left out out (stopped_before makes seen watched left out))

pub nothing_summarized : {W : Type 0} (seen : Seen W) (seed turns : ℕ) (watched : List ℕ) (out : Outside W) → Summarizes seen statuses.NoMemory seed turns watched out out
nothing_summarized seen seed turns watched out =
    summarizes_of seen statuses.NoMemory seed turns watched out out (record { taken = generated_taken seed turns; says = (refl, hears_some_none seen out.watchers _) })
