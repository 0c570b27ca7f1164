-- The marks of the layers so far are of the bars.
use Rattle.std.proofs.Common.{All}
use Rattle.wfe_draw_page.specs.Within.{Fits}
use Rattle.wfe_draw_page.proofs.mark.marks_of.Given as goal

abbrev pub invariant-loop-of : goal.invariant-loop-of
invariant-loop-of l = All (Fits l.grid l.bars) l.marks.items
