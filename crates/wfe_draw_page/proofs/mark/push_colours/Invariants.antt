-- The bars so far are of the frame.
use Rattle.wfe_draw_page.specs.Within.{AddsFrame}
use Rattle.wfe_draw_page.proofs.mark.push_colours.Given as goal

abbrev pub invariant-loop-shade : goal.invariant-loop-shade
invariant-loop-shade l = AddsFrame l.initial.bars.items l.bars.items
