-- The marks so far are of the bars.
use Rattle.std.proofs.Common.{All}
use Rattle.wfe_draw_page.specs.Within.{Fits}
use Rattle.wfe_draw_page.proofs.mark.push_layer.Given as goal

abbrev pub invariant-loop-bar : goal.invariant-loop-bar
invariant-loop-bar l = All (Fits l.grid l.bars) l.marks.items
