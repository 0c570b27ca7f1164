use Rattle.std.proofs.Common.{All, subst}
use Rattle.std.proofs.lemmas.List.Elements.{All-same}
use Rattle.wfe_draw_page.specs.Within.{Fits}
use Rattle.wfe_draw_page.proofs.Marks.{page-before}
use Rattle.wfe_draw_page.proofs.page.draw_on.Goals as goal

pub returns : goal.returns
returns c =
    let grid = c.args.grid.now in
    let all = c.push_frame.new.bars.items in
    let marks = c.in_ok-marks.marks.items in
    let fits : All (Fits grid all) c.deref-2.result.now =
    All-same (Fits grid all) c.deref-2.result.now marks c.deref-2.ensures.value (subst (λ bars. All (Fits grid bars) marks) c.deref.ensures.value c.in_ok-marks.ensures) in
    page-before c.args.bars.items all grid.before grid.columns c.in_ok-page_of.field-0.items c.in_ok-push_frame.ensures (c.in_ok-page_of.ensures all fits)
