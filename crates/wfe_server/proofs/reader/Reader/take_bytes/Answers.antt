use Rattle.std.proofs.Common.{arith, length, ◌<◌}
use Rattle.wfe_server_replay.proofs.Bytes.{after_bytes-at}
use Rattle.wfe_server.specs.Collecting.{scripter}
use Rattle.wfe_server.proofs.Scripting.{bytes_stop}
use Rattle.wfe_server.proofs.reader.Reader.take_bytes.Goals as goal

pub returns-in-Err : goal.returns-in-Err
returns-in-Err c =
    let within : c.loop-byte.byte-index < length c.args.bytes.now = omega arith in
    bytes_stop c.in-Err.stop c.args.self.now c.loop-byte.self c.args.bytes.now c.loop-byte.byte-index within c.loop-byte.invariant c.in-Err.ensures

pub loop-byte-preserved : goal.loop-byte-preserved
loop-byte-preserved c =
    let within : c.loop-byte.byte-index < length c.args.bytes.now = omega arith in
    after_bytes-at scripter c.args.self.now c.loop-byte.self c.take_byte.new.self c.args.bytes.now c.loop-byte.byte-index within c.loop-byte.invariant c.in-Ok.ensures
