-- What a replay has written where its work is done is read back.
use Rattle.law_printed.proofs.Done.{done_prints}
use Rattle.law_printed.specs.Printed.{IsKept}
use Rattle.std.proofs.Common.{Bool, List, Option, Some, subst, ℕ, ◌≡◌}
use Rattle.wfe_cli.proofs.Headline.{given_lawful}
use Rattle.wfe_cli.proofs.Jobs.{job_is}
use Rattle.wfe_cli.specs.Command.{Does}
use Rattle.wfe_cli.specs.Headline.{HasLaws, ReadsBack}
use Rattle.wfe_job.specs.declared.job.Job.{Job}
use Rattle.wfe_job.specs.declared.job.Job.TheVariants as jobs
use Rattle.wfe_defs.specs.declared.call.Call.{Call}
use Rattle.wfe_outside.specs.declared.watcher.WatchRow.{WatchRow}
use Rattle.wfe_server_gen.specs.server_replay.Given.{Given, given_record}
use Rattle.wfe_server_gen.specs.server_replay.Replay.{Replays, Says}
use Rattle.wfe_server_gen.specs.server_replay.Sunk.{Outside}
use Rattle.wfe_server_gen.specs.server_replay.Watched.{WatchersFit, watch_text}
use Rattle.wfe_server_out.specs.Heard.{Seen}
use Rattle.wfe_trace.specs.declared.reason.Status.{Status}
use Rattle.wfe_trace.specs.declared.reason.Status.TheVariants as statuses

-- what is known of the record of lines that are taken
kept_of : (given : Given) → HasLaws given → IsKept given.config (given_record given)
kept_of given h = record { laws = h.lawful.laws; ranges = h.lawful.beyond.ranges; guards = h.lawful.beyond.guards; indexes = h.lawful.beyond.stands.indexes }

reads_back : (makes : Call → Bool) {W : Type 0} (seen : Seen W) (shown : W → ℕ) (shows : W → ℕ → WatchRow) (status : Status) (before left : Option (List ℕ)) (old new : Outside W) →
    status ≡ statuses.Done → WatchersFit shown shows new.watchers → Replays makes seen status (watch_text shown shows new.watchers) before left old new → ReadsBack makes before left old.written new.written
reads_back makes seen shown shows status before left old new done fits (taken, consumed, said) =
    let r = (subst (λ s. Says makes seen s (watch_text shown shows new.watchers) taken left old new) done said).0 in
    let laws : HasLaws r.given = given_lawful makes r.given r.is_taken in
    (taken, consumed, record { given = r.given; progress = r.progress; good = r.good; is_given = r.is_given; lawful = done_prints makes seen shown shows taken old new r laws.record_is (kept_of r.given laws) fits })

-- where the words ask for a replay
pub reads_back_as : (makes : Call → Bool) {W : Type 0} (seen : Seen W) (shown : W → ℕ) (shows : W → ℕ → WatchRow) (job : Job) (a : Option Job) (status : Status) (before left : Option (List ℕ)) (old new : Outside W) →
    Some job ≡ a → a ≡ Some jobs.Replay → status ≡ statuses.Done → (job ≡ jobs.Replay → status ≡ statuses.Done → WatchersFit shown shows new.watchers)
    → Does makes seen job status (watch_text shown shows new.watchers) before left old new → ReadsBack makes before left old.written new.written
reads_back_as makes seen shown shows job a status before left old new e asks done fits does =
    let is : job ≡ jobs.Replay = job_is job jobs.Replay a e asks in
    let replays : Replays makes seen status (watch_text shown shows new.watchers) before left old new = rw is at does in
    reads_back makes seen shown shows status before left old new done (fits is done) replays
