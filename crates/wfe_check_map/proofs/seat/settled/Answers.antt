use Rattle.std.proofs.Common.{sym}
use Rattle.wfe_check_map.proofs.SpansLemmas.{due_next, due_here, due_end}
use Rattle.wfe_check_map.proofs.seat.settled.Goals as goal

pub returns-then-not-is_kept : goal.returns-then-not-is_kept
returns-then-not-is_kept c h =
    due_here c.args.values.now c.args.lives.now c.loop-place.place (record { slot = 0; birth = 0; retire = 0 }) c.loop-place-test.true (sym c.if-not-is_kept.ensures) (c.loop-place.invariant h)

pub loop-place-preserved : goal.loop-place-preserved
loop-place-preserved c h =
    due_next c.args.values.now c.args.lives.now c.loop-place.place (record { slot = 0; birth = 0; retire = 0 }) c.loop-place-test.true (sym c.if-not-is_kept.ensures) (c.loop-place.invariant h)

pub returns : goal.returns
returns c h = due_end c.args.values.now c.args.lives.now c.loop-place.place c.loop-place-test.false (c.loop-place.invariant h)
