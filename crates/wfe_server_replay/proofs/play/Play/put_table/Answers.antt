use Rattle.std.proofs.Common.{rules, Err, ◌≡◌}
use Rattle.wfe_server_out.specs.declared.fault.Fault.TheVariants as faults
use Rattle.wfe_server_out.proofs.Written.{writes_fault, writes_more, writes_of, writes_ok, writes_then}
use Rattle.wfe_server_replay.proofs.Tables.{table_is}
use Rattle.wfe_server_replay.proofs.play.Play.put_table.Goals as goal

pub returns-in_err-put_seats-clause-writes : goal.returns-in_err-put_seats-clause-writes
returns-in_err-put_seats-clause-writes g c =
    let came : c.from_residual.result ≡ Err faults.Write = search rules in
    writes_fault came (writes_of (table_is _ _ c.self.view_is) (writes_more _ c.in_err-put_seats.ensures))

pub returns-in_err-put_total-clause-writes : goal.returns-in_err-put_total-clause-writes
returns-in_err-put_total-clause-writes g c =
    let came : c.from_residual-in_err-put_total.result ≡ Err faults.Write = search rules in
    writes_fault came (writes_of (table_is _ _ c.self.view_is) (writes_then c.in_ok-put_seats.ensures c.in_err-put_total.ensures))

pub returns-clause-writes : goal.returns-clause-writes
returns-clause-writes g c = writes_of (table_is _ _ c.self.view_is) (writes_ok _ (writes_then c.in_ok-put_seats.ensures c.in_ok-put_total.ensures))
