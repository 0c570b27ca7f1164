use Rattle.std.proofs.Common.{rules}
use Rattle.wfe_server_out.proofs.Written.{wrote_all, wrote_fails, wrote_more, wrote_none}
use Rattle.wfe_server_lines.proofs.ClosedLines.{queue_next, queue_over}
use Rattle.wfe_server_lines.proofs.closed.put_queue.Goals as goal

pub loop-place-init : goal.loop-place-init
loop-place-init g c = wrote_none _

pub returns-in_err-put_item : goal.returns-in_err-put_item
returns-in_err-put_item g c = wrote_fails _ (search rules) (queue_next c.args.items.now c.loop-place.place _ (search rules)) c.loop-place.invariant c.in_err-put_item.ensures

pub loop-place-preserved : goal.loop-place-preserved
loop-place-preserved g c = wrote_more (queue_next c.args.items.now c.loop-place.place _ (search rules)) c.loop-place.invariant c.in_ok-put_item.ensures

pub returns : goal.returns
returns g c = wrote_all (queue_over c.args.items.now c.loop-place.place (search rules)) c.loop-place.invariant
