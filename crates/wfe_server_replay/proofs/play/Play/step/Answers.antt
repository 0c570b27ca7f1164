use Rattle.std.proofs.Common.{[], arith, rules, suc, ◌+◌, ◌-◌, ◌≡◌}
use Rattle.wfe_server_out.proofs.Emits.{emits_none, emits_of, emits_then, emits_within}
use Rattle.wfe_server_replay.proofs.Units.{running_all, running_ended, running_more, running_none}
use Rattle.wfe_server_replay.proofs.play.Play.step.Goals as goal

pub loop-init : goal.loop-init
loop-init g c = ([], running_none c.args.units (c.args.units - 0) c.args.seat c.args.self.now (omega arith), emits_none)

pub returns-then-not-busy-clause-after : goal.returns-then-not-busy-clause-after
returns-then-not-busy-clause-after g c =
    let over = running_ended (search rules) c.loop.invariant.1 in
    over.made

pub returns-then-not-busy-clause-emits : goal.returns-then-not-busy-clause-emits
returns-then-not-busy-clause-emits g c =
    let over = running_ended (search rules) c.loop.invariant.1 in
    emits_of over.all c.loop.invariant.2

pub returns-in_err-unit-clause-emits : goal.returns-in_err-unit-clause-emits
returns-in_err-unit-clause-emits g c =
    let count : c.args.units - c.loop.counter ≡ suc (c.args.units - (c.loop.counter + 1)) = omega arith in
    let next = running_more (c.args.units - (c.loop.counter + 1)) count c.in_err-unit.ensures.after (search rules) c.loop.invariant.1 in
    emits_within _ (search rules) next.all c.loop.invariant.2 c.in_err-unit.ensures.emits

pub loop-preserved : goal.loop-preserved
loop-preserved g c =
    let count : c.args.units - c.loop.counter ≡ suc (c.args.units - (c.loop.counter + 1)) = omega arith in
    (_, running_more (c.args.units - (c.loop.counter + 1)) count c.in_ok-unit.ensures.after (search rules) c.loop.invariant.1, emits_then c.loop.invariant.2 c.in_ok-unit.ensures.emits)

pub returns-clause-after : goal.returns-clause-after
returns-clause-after g c =
    let over = running_all (omega arith) c.loop.invariant.1 in
    over.made

pub returns-clause-emits : goal.returns-clause-emits
returns-clause-emits g c =
    let over = running_all (omega arith) c.loop.invariant.1 in
    emits_of over.all c.loop.invariant.2
