use Rattle.std.proofs.Common.{inl, take}
use Rattle.wfe_draw.proofs.record.turn.Goals as goal

pub returns-in-Err-take_bytes-clause-turned : goal.returns-in-Err-take_bytes-clause-turned
returns-in-Err-take_bytes-clause-turned g c last taken h =
    record { more = take c.in-Ok.count c.read.new.buf; consumed = c.in-Ok.ensures.bytes.0; bad = inl (c.in-Err-take_bytes.ensures last taken h) }
