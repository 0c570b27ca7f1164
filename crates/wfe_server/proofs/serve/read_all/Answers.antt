use Rattle.std.proofs.Common.{arith, rules}
use Rattle.wfe_server_replay.proofs.ByteCounts.{count-within}
use Rattle.wfe_server_replay.specs.Trace.{progress_start}
use Rattle.wfe_server.specs.Collecting.{scripter}
use Rattle.wfe_server.proofs.Reading.{ends_then, goes_start, goes_then}
use Rattle.wfe_trace.specs.declared.item.Mode.TheVariants as modes
use Rattle.wfe_server.proofs.serve.read_all.Goals as goal

pub returns-in-Some-clause-ended : goal.returns-in-Some-clause-ended
returns-in-Some-clause-ended g c = ends_then c.in-Some.ending _ _ _ _ c.loop.reader c.turn.new.reader c.loop.invariant.goes c.in-Some.ensures.turned

pub loop-init : goal.loop-init
loop-init g c = record {
  goes = goes_start _ c.args.reader.now (progress_start modes.Run) c.requires.fresh;
  counted = omega arith;
  source = search rules;
  room = search rules;
}

pub loop-preserved : goal.loop-preserved
loop-preserved g c = record {
  goes = goes_then _ _ _ _ c.loop.reader c.turn.new.reader c.loop.invariant.goes c.in_default.ensures.turned.0;
  counted = omega (arith, c.loop.invariant.counted, c.in_default.ensures.turned.1);
  source = omega (arith, c.loop.invariant.source, c.in_default.ensures.source);
  room = search rules;
}

pub unreachable-requires : goal.unreachable-requires
unreachable-requires g c =
    let run = c.loop.invariant.goes in
    omega (arith, count-within scripter (progress_start modes.Run) c.loop.reader run.taken (omega arith) run.good, c.loop.invariant.counted, c.loop-test.false)
