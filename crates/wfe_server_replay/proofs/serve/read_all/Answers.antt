use Rattle.std.proofs.Common.{arith, rules}
use Rattle.wfe_trace.specs.declared.item.Mode.TheVariants as modes
use Rattle.wfe_server_replay.specs.Playing.{player}
use Rattle.wfe_server_replay.specs.Sunk.{outside}
use Rattle.wfe_server_replay.specs.Trace.{progress_start}
use Rattle.wfe_server_replay.proofs.ByteCounts.{count-within}
use Rattle.wfe_server_replay.proofs.Going.{ends_then, goes_start, goes_then}
use Rattle.wfe_server_replay.proofs.serve.read_all.Goals as goal

pub returns-in-Some-clause-ended : goal.returns-in-Some-clause-ended
returns-in-Some-clause-ended g c = ends_then g.E.Engine.taken _ c.in-Some.ending _ _ _ _ _ _ _ c.loop.work c.turn.new.work c.loop.invariant.goes c.in-Some.ensures.turned

pub loop-init : goal.loop-init
loop-init g c = record {
  goes = goes_start g.E.Engine.taken _ _ (outside (g.K.Sink.written c.args.sink.now) c.args.watchers.now) c.args.work.now (progress_start modes.Replay) c.requires.fresh;
  counted = omega arith;
  source = search rules;
  sink = search rules;
  room = search rules;
}

pub loop-preserved : goal.loop-preserved
loop-preserved g c = record {
  goes = goes_then g.E.Engine.taken _ _ _ _ _ _ _ _ c.loop.work c.turn.new.work c.loop.invariant.goes c.in_default.ensures.turned.0;
  counted = omega (arith, c.loop.invariant.counted, c.in_default.ensures.turned.1);
  source = omega (arith, c.loop.invariant.source, c.in_default.ensures.source);
  sink = omega (arith, c.loop.invariant.sink, c.in_default.ensures.sink);
  room = search rules;
}

pub unreachable-requires : goal.unreachable-requires
unreachable-requires g c =
    let run = c.loop.invariant.goes in
    omega (arith, count-within (player g.E.Engine.taken) (progress_start modes.Replay) c.loop.work run.taken (omega arith) run.good, c.loop.invariant.counted, c.loop-test.false)
