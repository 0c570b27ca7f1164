use Rattle.std.proofs.Common.{sym, subst}
use Rattle.wfe_draw_page.specs.Pages.{IsPage}
use Rattle.wfe_draw.proofs.command.draw_part.Goals as goal

pub returns-in-Ok-draw-clause-does : goal.returns-in-Ok-draw-clause-does
returns-in-Ok-draw-clause-does g c =
    let picture = c.in-Ok.picture in
    let (columns, shown) = c.in-Ok-draw.ensures in
    c.write_page.ensures.does c.args.part.last _ _
    (record { picture = picture; is = c.in-Ok.ensures.pictures; columns = columns; shown = subst (IsPage picture.bars.items picture.before columns) (sym c.deref.ensures.value) shown })
