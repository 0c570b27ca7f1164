use Rattle.std.proofs.Common.{arith, rules, suc, ◌+◌, ◌-◌, ◌≡◌}
use Rattle.wfe_server_out.proofs.Texts.{on_err}
use Rattle.wfe_server_gen.proofs.Turning.{running_all, running_ended, running_fails, running_more, running_none}
use Rattle.wfe_server_gen.proofs.table.Table.step.Goals as goal

pub loop-init : goal.loop-init
loop-init g c =
    let all : c.args.units ≡ c.args.units - 0 = omega arith in
    running_none _ _ _ c.args.units (c.args.units - 0) c.args.seat c.args.self.now.played all

pub returns-then-not-busy-clause-after : goal.returns-then-not-busy-clause-after
returns-then-not-busy-clause-after g c =
    let o = running_ended _ _ _ _ _ c.args.units (c.args.units - c.loop.counter) c.args.seat c.args.self.now.played c.loop.self.played (search rules) c.loop.invariant in
    o.made

pub returns-then-not-busy-clause-ok : goal.returns-then-not-busy-clause-ok
returns-then-not-busy-clause-ok g c =
    let o = running_ended _ _ _ _ _ c.args.units (c.args.units - c.loop.counter) c.args.seat c.args.self.now.played c.loop.self.played (search rules) c.loop.invariant in
    o.told

pub returns-in_err-unit-clause-err : goal.returns-in_err-unit-clause-err
returns-in_err-unit-clause-err g c =
    let next : c.args.units - c.loop.counter ≡ suc (c.args.units - (c.loop.counter + 1)) = omega arith in
    on_err c.from_residual.result (running_fails _ _ _ _ _ _ c.args.units (c.args.units - c.loop.counter) (c.args.units - (c.loop.counter + 1)) c.args.seat c.args.self.now.played c.loop.self.played next (search rules) c.loop.invariant c.in_err-unit.ensures.err)

pub loop-preserved : goal.loop-preserved
loop-preserved g c =
    let next : c.args.units - c.loop.counter ≡ suc (c.args.units - (c.loop.counter + 1)) = omega arith in
    running_more _ _ _ _ _ _ _ c.args.units (c.args.units - c.loop.counter) (c.args.units - (c.loop.counter + 1)) c.args.seat c.args.self.now.played c.loop.self.played _ next (search rules) c.in_ok-unit.ensures.after c.loop.invariant c.in_ok-unit.ensures.ok

pub returns-clause-after : goal.returns-clause-after
returns-clause-after g c =
    let none : c.args.units - c.loop.counter ≡ 0 = omega arith in
    let o = running_all _ _ _ _ _ c.args.units (c.args.units - c.loop.counter) c.args.seat c.args.self.now.played c.loop.self.played none c.loop.invariant in
    o.made

pub returns-clause-ok : goal.returns-clause-ok
returns-clause-ok g c =
    let none : c.args.units - c.loop.counter ≡ 0 = omega arith in
    let o = running_all _ _ _ _ _ c.args.units (c.args.units - c.loop.counter) c.args.seat c.args.self.now.played c.loop.self.played none c.loop.invariant in
    o.told
