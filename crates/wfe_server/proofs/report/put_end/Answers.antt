use Rattle.std.proofs.Common.{rules}
use Rattle.std.specs.Prelude.{codes}
use Rattle.wfe_server_out.proofs.Written.{writes_fault, writes_more, writes_then}
use Rattle.wfe_server.proofs.report.put_end.Goals as goal

pub returns-in_err-put_watched : goal.returns-in_err-put_watched
returns-in_err-put_watched g c = writes_fault (search rules) (writes_more (codes "done\n") c.in_err-put_watched.ensures.writes)

pub returns : goal.returns
returns g c = writes_then c.in_ok-put_watched.ensures.writes c.write_all.ensures
