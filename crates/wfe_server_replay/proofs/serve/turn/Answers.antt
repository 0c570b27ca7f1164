use Rattle.std.proofs.Common.{arith, take}
use Rattle.wfe_server_replay.specs.Playing.{player}
use Rattle.wfe_server_replay.specs.Sunk.{outside}
use Rattle.wfe_server_replay.proofs.ByteCounts.{count-bytes}
use Rattle.wfe_server_replay.proofs.Going.{goes_unread}
use Rattle.wfe_server_replay.proofs.serve.turn.Goals as goal

pub returns-in-Err-clause-turned : goal.returns-in-Err-clause-turned
returns-in-Err-clause-turned g c = goes_unread g.E.Engine.taken _ _ _ (outside (g.K.Sink.written c.args.sink.now) c.args.watchers.now) c.args.work.now c.in-Err.ensures.bytes

pub returns-in-Ok-take_bytes-clause-turned : goal.returns-in-Ok-take_bytes-clause-turned
returns-in-Ok-take_bytes-clause-turned g c = (
  record {
    taken = _;
    consumed = c.in-Ok.ensures.bytes.0;
    good = c.in-Ok-take_bytes.ensures.took.0;
    put = c.in-Ok-take_bytes.ensures.took.1;
  },
  omega (arith, count-bytes (player g.E.Engine.taken) c.args.work.now c.take_bytes.new.self (take c.in-Ok.count c.read.new.buf) c.in-Ok-take_bytes.ensures.took.0, c.in-Ok.ensures.bound.1, c.in-Ok.count-test.1),
)
