use Rattle.std.proofs.Common.{[], rules}
use Rattle.wfe_server_out.proofs.Emits.{emits_none, emits_of, emits_then, emits_within}
use Rattle.wfe_server_replay.proofs.Units.{running_ended, run_begins, runs_more}
use Rattle.wfe_server_replay.proofs.play.Play.run.Goals as goal

pub loop-told-init : goal.loop-told-init
loop-told-init g c = ([], run_begins c.args.seat c.args.self.now, emits_none)

pub loop-told-preserved : goal.loop-told-preserved
loop-told-preserved g c =
    let so_far = c.loop-told.invariant in
    (_, runs_more c.in_ok-unit.ensures.after (search rules) c.in_ok-unit.ensures.falls so_far.1, emits_then so_far.2 c.in_ok-unit.ensures.emits)

pub returns-in_err-unit-clause-emits : goal.returns-in_err-unit-clause-emits
returns-in_err-unit-clause-emits g c =
    let so_far = c.loop-told.invariant in
    let next = runs_more c.in_err-unit.ensures.after (search rules) c.in_err-unit.ensures.falls so_far.1 in
    emits_within _ (search rules) next.runs.all so_far.2 c.in_err-unit.ensures.emits

pub returns-clause-after : goal.returns-clause-after
returns-clause-after g c =
    let over = running_ended (search rules) c.loop-told.invariant.1.runs in
    over.made

pub returns-clause-emits : goal.returns-clause-emits
returns-clause-emits g c =
    let over = running_ended (search rules) c.loop-told.invariant.1.runs in
    emits_of over.all c.loop-told.invariant.2
