use Rattle.wfe_server.proofs.Reports.{prints_done, prints_last}
use Rattle.wfe_server.proofs.report.print_run.Goals as goal

pub returns-in-Ok-put_end-clause-prints : goal.returns-in-Ok-put_end-clause-prints
returns-in-Ok-put_end-clause-prints g c = prints_done _ _ _ _ c.args.watchers.now c.put_run.new.watchers _ _ c.in-Ok.ensures.put c.in-Ok-put_end.ensures.wrote

pub returns-in-Err-clause-prints : goal.returns-in-Err-clause-prints
returns-in-Err-clause-prints g c = prints_last _ _ _ _ c.args.watchers.now c.put_run.new.watchers _ _ c.in-Ok.ensures.put c.in-Err.ensures.some
