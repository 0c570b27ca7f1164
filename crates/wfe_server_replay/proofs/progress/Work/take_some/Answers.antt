use Rattle.std.proofs.Common.{arith, length, rules, ◌<◌}
use Rattle.wfe_server_replay.specs.Playing.{player}
use Rattle.wfe_server_replay.specs.Sunk.{outside}
use Rattle.wfe_server_replay.proofs.Bytes.{StopsAt-at, after_bytes-at, puts-at}
use Rattle.wfe_server_replay.proofs.Outs.{puts_same}
use Rattle.wfe_server_replay.proofs.progress.Work.take_some.Goals as goal

pub returns-then-count-bytes-clause-takes : goal.returns-then-count-bytes-clause-takes
returns-then-count-bytes-clause-takes g c = record {
  took = (c.take_plain-count.ensures.after, puts_same _ (outside (g.K.Sink.written c.args.sink.now) c.args.watchers.now) _ c.take_plain-count.ensures.output);
  later = omega arith;
  cause = search rules;
}

pub returns-in-Err-clause-takes : goal.returns-in-Err-clause-takes
returns-in-Err-clause-takes g c =
    let within : c.take_plain-count.result < length c.args.bytes.now = omega arith in
    let here = outside (g.K.Sink.written c.args.sink.now) c.args.watchers.now in
    record {
      took = StopsAt-at g.E.Engine.taken _ c.in-Err.stop c.args.self.now c.take_plain-count.new.self c.args.bytes.now c.take_plain-count.result here here (outside (g.K.Sink.written c.take_byte.new.sink) c.take_byte.new.watchers)
          within c.take_plain-count.ensures.after (puts_same _ here _ c.take_plain-count.ensures.output) c.in-Err.ensures.took;
      later = search rules;
      cause = search rules;
    }

pub returns-in-Ok-clause-takes : goal.returns-in-Ok-clause-takes
returns-in-Ok-clause-takes g c =
    let within : c.take_plain-count.result < length c.args.bytes.now = omega arith in
    let here = outside (g.K.Sink.written c.args.sink.now) c.args.watchers.now in
    record {
      took = (
        after_bytes-at (player g.E.Engine.taken) c.args.self.now c.take_plain-count.new.self c.take_byte.new.self c.args.bytes.now c.take_plain-count.result within c.take_plain-count.ensures.after c.in-Ok.ensures.took.0,
        puts-at _ (player g.E.Engine.taken) c.args.self.now c.take_plain-count.new.self c.args.bytes.now c.take_plain-count.result here here (outside (g.K.Sink.written c.take_byte.new.sink) c.take_byte.new.watchers)
            within c.take_plain-count.ensures.after (puts_same _ here _ c.take_plain-count.ensures.output) c.in-Ok.ensures.took.1,
      );
      later = search rules;
      cause = search rules;
    }
