use Rattle.std.proofs.Common.{rules}
use Rattle.wfe_server.proofs.Complete.{complete}
use Rattle.wfe_server.proofs.Running.{runs_back}
use Rattle.wfe_server.proofs.serve.run.Goals as goal

pub returns-clause-said : goal.returns-clause-said
returns-clause-said g c =
    runs_back _ _ _ c.run_in.result _ _ _ _ c.deref_mut.result.now c.args.watchers.now.items c.run_in.new.watchers c.args.watchers.now.len c.deref_mut.ensures.value (search rules) (search rules) c.run_in.ensures.said

pub returns-clause-complete : goal.returns-clause-complete
returns-clause-complete g c = complete _ c.run_in.result _ _ _ _ _ c.run_in.ensures.said c.run_in.ensures.read c.run_in.ensures.write
