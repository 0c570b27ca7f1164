use Rattle.std.proofs.Common.{arith}
use Rattle.wfe_server_lines.proofs.Told.{backs_pushed}
use Rattle.wfe_server_lines.proofs.events.push_backs.Goals as goal

pub loop-slot-preserved : goal.loop-slot-preserved
loop-slot-preserved c =
    backs_pushed c.args.events.now.items c.loop-slot.events.items c.push.new.events.items c.args.slots.now c.loop-slot.slot-index (omega arith) c.loop-slot.invariant c.in_ok-push.ensures
