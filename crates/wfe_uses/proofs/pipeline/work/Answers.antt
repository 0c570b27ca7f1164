-- The seat has made no call at the beginning, and each turn moves a value at most.
use Rattle.std.proofs.Common.{refl, ◌∙◌}
use Rattle.wfe_uses.proofs.Flowing.{moves_begun}
use Rattle.wfe_uses.proofs.pipeline.work.Goals as goal

pub loop-value-init : goal.loop-value-init
loop-value-init c = record { of = c.requires.fresh.of; moves = moves_begun c.args.seat.track.local.log _ _ c.requires.fresh.log c.new-sent.ensures.items c.new-taken.ensures.items; number = refl }

pub loop-value-preserved : goal.loop-value-preserved
loop-value-preserved c = record { of = c.turn.ensures.of; moves = c.in_ok-turn.ensures.moves c.loop-value.invariant.moves; number = c.turn.ensures.number ∙ c.loop-value.invariant.number }
