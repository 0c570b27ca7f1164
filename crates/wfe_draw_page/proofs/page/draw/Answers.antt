use Rattle.std.proofs.Common.{ℕ, subst}
use Rattle.std.proofs.lemmas.Result.{IfOk-weaker}
use Rattle.wfe_draw_page.specs.Pages.{IsPage}
use Rattle.wfe_draw_page.proofs.page.draw.Goals as goal

pub returns : goal.returns
returns c =
    let picture = c.args.picture in
    let grid = c.in_ok-grid.grid in
    IfOk-weaker c.draw_on.result (λ page. IsPage picture.bars.items grid.before grid.columns page.items) (λ page. (columns : ℕ) × IsPage picture.bars.items picture.before columns page.items)
    (λ page is. (grid.columns, subst (λ before. IsPage picture.bars.items before grid.columns page.items) c.in_ok-grid.ensures.before is)) c.draw_on.ensures
