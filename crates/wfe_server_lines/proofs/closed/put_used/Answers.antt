use Rattle.std.proofs.Common.{rules}
use Rattle.wfe_server_out.proofs.Written.{wrote_all, wrote_fails, wrote_more, wrote_none}
use Rattle.wfe_server_lines.proofs.ClosedLines.{used_next, used_over}
use Rattle.wfe_server_lines.proofs.closed.put_used.Goals as goal

pub loop-place-init : goal.loop-place-init
loop-place-init g c = wrote_none _

pub returns-in_err-put_slot : goal.returns-in_err-put_slot
returns-in_err-put_slot g c = wrote_fails _ (search rules) (used_next c.args.slots.now c.loop-place.place (search rules)) c.loop-place.invariant c.in_err-put_slot.ensures

pub loop-place-preserved : goal.loop-place-preserved
loop-place-preserved g c = wrote_more (used_next c.args.slots.now c.loop-place.place (search rules)) c.loop-place.invariant c.in_ok-put_slot.ensures

pub returns : goal.returns
returns g c = wrote_all (used_over c.args.slots.now c.loop-place.place (search rules)) c.loop-place.invariant
