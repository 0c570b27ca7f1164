use Rattle.std.proofs.Common.{rules}
use Rattle.wfe_cli.proofs.Complete.{complete}
use Rattle.wfe_cli.proofs.Headline.{given_lawful, keeps_of}
use Rattle.wfe_cli.proofs.Jobs.{checks_as, nothing_checked, nothing_kept, nothing_run, nothing_summarized, replays_as, runs_as, summarizes_as, unread_by, untold_by}
use Rattle.wfe_cli.proofs.ReadBack.{reads_back_as}
use Rattle.wfe_check.proofs.lines.Answered.{answered}
use Rattle.wfe_server.proofs.Complete.{complete as run_whole}
use Rattle.wfe_cli.proofs.command.main_call.Goals as goal

pub returns-in-Ok-Some-clause-replays : goal.returns-in-Ok-Some-clause-replays
returns-in-Ok-Some-clause-replays g c asks = keeps_of _ _ c.perform.result _ _ _ _ _ (replays_as _ _ _ _ c.perform.result _ _ _ _ _ (search rules) asks c.perform.ensures.does)

pub returns-in-Ok-Some-clause-lawful : goal.returns-in-Ok-Some-clause-lawful
returns-in-Ok-Some-clause-lawful g c = given_lawful

pub returns-in-Ok-Some-clause-read_back : goal.returns-in-Ok-Some-clause-read_back
returns-in-Ok-Some-clause-read_back g c asks done =
    reads_back_as _ _ (λ b. (goal.Watcher-dyn g (b.vtable, b.value)).shown b.value) (λ b. (goal.Watcher-dyn g (b.vtable, b.value)).shows b.value) _ _ c.perform.result _ _ _ _ (search rules) asks done c.perform.ensures.fits c.perform.ensures.does

pub returns-in-Ok-Some-clause-generates : goal.returns-in-Ok-Some-clause-generates
returns-in-Ok-Some-clause-generates g c seed turns asks = summarizes_as _ _ _ _ seed turns c.perform.result _ _ _ _ _ (search rules) asks c.perform.ensures.does

pub returns-in-Ok-Some-clause-runs : goal.returns-in-Ok-Some-clause-runs
returns-in-Ok-Some-clause-runs g c asks = runs_as _ _ _ _ c.perform.result _ _ _ _ _ (search rules) asks c.perform.ensures.does

pub returns-in-Ok-Some-clause-unread : goal.returns-in-Ok-Some-clause-unread
returns-in-Ok-Some-clause-unread g c replays runs checks = unread_by _ _ (search rules) replays runs checks c.perform.ensures.unread

pub returns-in-Ok-Some-clause-untold : goal.returns-in-Ok-Some-clause-untold
returns-in-Ok-Some-clause-untold g c asks = untold_by _ _ (search rules) asks c.perform.ensures.unheard

pub returns-in-Ok-Some-clause-checks : goal.returns-in-Ok-Some-clause-checks
returns-in-Ok-Some-clause-checks g c asks = checks_as _ _ _ _ c.perform.result _ _ _ _ _ (search rules) asks c.perform.ensures.does

pub returns-in-Ok-Some-clause-checked : goal.returns-in-Ok-Some-clause-checked
returns-in-Ok-Some-clause-checked g c asks =
    answered c.perform.result _ _ _ _ (checks_as _ _ _ _ c.perform.result _ _ _ _ _ (search rules) asks c.perform.ensures.does) c.perform.ensures.read c.perform.ensures.write

pub returns-in-Ok-Some-clause-run_whole : goal.returns-in-Ok-Some-clause-run_whole
returns-in-Ok-Some-clause-run_whole g c asks =
    run_whole _ c.perform.result _ _ _ _ _ (runs_as _ _ _ _ c.perform.result _ _ _ _ _ (search rules) asks c.perform.ensures.does) c.perform.ensures.read c.perform.ensures.write

pub returns-in-Ok-Some-clause-complete : goal.returns-in-Ok-Some-clause-complete
returns-in-Ok-Some-clause-complete g c asks bytes progress told good reads writes =
    complete _ _ c.perform.result _ _ _ _ _ (replays_as _ _ _ _ c.perform.result _ _ _ _ _ (search rules) asks c.perform.ensures.does)
    bytes progress told good (λ fault. reads (c.perform.ensures.read fault)) (λ fault. writes (c.perform.ensures.write fault))

pub returns-in-Ok-None-clause-lawful : goal.returns-in-Ok-None-clause-lawful
returns-in-Ok-None-clause-lawful g c = given_lawful

pub returns-in-Err-clause-replays : goal.returns-in-Err-clause-replays
returns-in-Err-clause-replays g c asks = nothing_kept _ _ _ _ _

pub returns-in-Err-clause-checks : goal.returns-in-Err-clause-checks
returns-in-Err-clause-checks g c asks = nothing_checked _ _

pub returns-in-Err-clause-runs : goal.returns-in-Err-clause-runs
returns-in-Err-clause-runs g c asks = nothing_run _ _ _ _

pub returns-in-Err-clause-lawful : goal.returns-in-Err-clause-lawful
returns-in-Err-clause-lawful g c = given_lawful

pub returns-in-Err-clause-generates : goal.returns-in-Err-clause-generates
returns-in-Err-clause-generates g c seed turns asks = nothing_summarized _ seed turns _ _
