-- The text so far is that of the bars of the marks so far, where the marks are of bars.
use Rattle.std.proofs.Common.{List, All, ◌≡◌, ◌++◌}
use Rattle.wfe_draw_lives.specs.declared.bar.Bar.{Bar}
use Rattle.wfe_draw_page.specs.Pages.{IsShown, IsShownOf, Shown, all_text}
use Rattle.wfe_draw_page.specs.Within.{Fits, IsWithin, width_of}
use Rattle.wfe_draw_page.proofs.page.page_of.Given as goal

abbrev pub invariant-loop-mark : goal.invariant-loop-mark
invariant-loop-mark l =
    (bars : List Bar) → All (Fits l.grid bars) l.marks → (shown : List Shown) × All (λ s. IsWithin (width_of l.grid) l.grid.height s.frame) shown × All IsShown shown
    × All (IsShownOf bars l.grid.before l.grid.columns) shown × (l.page.items ≡ l.initial.page.items ++ all_text shown)
