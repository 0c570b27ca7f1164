-- The bars so far are of the frame.
use Rattle.wfe_draw_page.specs.Within.{AddsFrame}
use Rattle.wfe_draw_page.proofs.mark.push_names.Given as goal

abbrev pub invariant-loop-lane : goal.invariant-loop-lane
invariant-loop-lane l = AddsFrame l.initial.bars.items l.bars.items
