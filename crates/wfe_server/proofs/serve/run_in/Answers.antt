use Rattle.std.proofs.Common.{subst}
use Rattle.wfe_server.specs.Runs.{Refuses}
use Rattle.wfe_server.proofs.Running.{says_made, says_refused}
use Rattle.wfe_server.proofs.serve.run_in.Goals as goal

pub returns-in-Ok-clause-said : goal.returns-in-Ok-clause-said
returns-in-Ok-clause-said g c =
    let r = c.in-Ok.ensures.reads in
    (r.0, r.1, says_made _ c.run_scripts.result _ r.0 _ _ _ c.in-Ok.scripts r.2 c.run_scripts.ensures.config c.run_scripts.ensures.scripts c.run_scripts.ensures.made)

pub returns-in-Err-Bad-clause-said : goal.returns-in-Err-Bad-clause-said
returns-in-Err-Bad-clause-said g c =
    let r = c.in-Err-Bad.ensures.reads in
    let old = g.K.Sink.written c.args.sink.now in
    let new = g.K.Sink.written c.refuse.new.sink in
    let refused = subst (λ bad. Refuses c.refuse.result bad old new) c.in-Err-Bad.bad-is c.refuse.ensures.refused in
    (r.0, r.1, says_refused _ c.refuse.result _ r.0 _ _ _ c.args.watchers.now c.in-Err-Bad.bad (rw c.in-Err-Bad.field-0-is at r.2) refused)
