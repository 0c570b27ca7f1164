use Rattle.std.proofs.Common.{arith, take}
use Rattle.wfe_server_replay.proofs.ByteCounts.{count-bytes}
use Rattle.wfe_server.specs.Collecting.{scripter}
use Rattle.wfe_server.proofs.Reading.{goes_unread}
use Rattle.wfe_server.proofs.serve.turn.Goals as goal

pub returns-in-Err-clause-turned : goal.returns-in-Err-clause-turned
returns-in-Err-clause-turned g c = goes_unread _ _ c.args.reader.now c.in-Err.ensures.bytes

pub returns-in-Ok-take_bytes-clause-turned : goal.returns-in-Ok-take_bytes-clause-turned
returns-in-Ok-take_bytes-clause-turned g c = (
  record { taken = _; consumed = c.in-Ok.ensures.bytes.0; good = c.in-Ok-take_bytes.ensures },
  omega (arith, count-bytes scripter c.args.reader.now c.take_bytes.new.self (take c.in-Ok.count c.read.new.buf) c.in-Ok-take_bytes.ensures, c.in-Ok.ensures.bound.1, c.in-Ok.count-test.1),
)
