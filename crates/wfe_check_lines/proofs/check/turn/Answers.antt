use Rattle.std.proofs.Common.{arith, take}
use Rattle.wfe_check_lines.proofs.Bytes.{count_bytes}
use Rattle.wfe_check_lines.proofs.Standing.{goes_unread}
use Rattle.wfe_check_lines.proofs.check.turn.Goals as goal

pub returns-in-Err-clause-turned : goal.returns-in-Err-clause-turned
returns-in-Err-clause-turned g c r is = goes_unread g.J.Judge.judges g.J.Judge.good _ _ r c.args.reader.now is c.in-Err.ensures.bytes

pub returns-in-Ok-take_bytes-clause-turned : goal.returns-in-Ok-take_bytes-clause-turned
returns-in-Ok-take_bytes-clause-turned g c r is =
    let (x, e, stands) = c.in-Ok-take_bytes.ensures r is in (
      record { taken = _; consumed = c.in-Ok.ensures.bytes.0; after = x; good = e; is = stands },
      omega (arith, count_bytes r x (take c.in-Ok.count c.read.new.buf) e, c.in-Ok.ensures.bound.1, c.in-Ok.count-test.1),
    )
