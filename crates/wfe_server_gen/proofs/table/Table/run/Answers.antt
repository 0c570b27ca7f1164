use Rattle.std.proofs.Common.{rules}
use Rattle.wfe_server_out.proofs.Texts.{on_err}
use Rattle.wfe_server_replay.specs.Playing.{call_most}
use Rattle.wfe_server_gen.proofs.Turning.{running_ended, runs_fail, runs_more, runs_none}
use Rattle.wfe_server_gen.proofs.table.Table.run.Goals as goal

pub loop-told-init : goal.loop-told-init
loop-told-init g c = runs_none _ _ _ c.args.seat c.args.self.now.played

pub loop-told-preserved : goal.loop-told-preserved
loop-told-preserved g c = runs_more _ _ _ _ _ _ _ c.args.seat c.args.self.now.played c.loop-told.self.played _ (search rules) c.in_ok-unit.ensures.after c.in_ok-unit.ensures.falls c.loop-told.invariant c.in_ok-unit.ensures.ok

pub returns-in_err-unit-clause-err : goal.returns-in_err-unit-clause-err
returns-in_err-unit-clause-err g c =
    on_err c.from_residual.result (runs_fail _ _ _ _ _ _ c.args.seat c.args.self.now.played c.loop-told.self.played c.unit.new.self.played (search rules) c.in_err-unit.ensures.falls c.loop-told.invariant c.in_err-unit.ensures.err)

pub returns-clause-after : goal.returns-clause-after
returns-clause-after g c =
    let r = c.loop-told.invariant in
    let o = running_ended _ _ _ _ _ call_most r.left c.args.seat c.args.self.now.played c.loop-told.self.played (search rules) r.runs in
    o.made

pub returns-clause-ok : goal.returns-clause-ok
returns-clause-ok g c =
    let r = c.loop-told.invariant in
    let o = running_ended _ _ _ _ _ call_most r.left c.args.seat c.args.self.now.played c.loop-told.self.played (search rules) r.runs in
    o.told
