use Rattle.std.proofs.lemmas.List.Elements.{All-push, All-same}
use Rattle.wfe_draw_page.specs.Within.{Fits}
use Rattle.wfe_draw_page.specs.declared.mark.Mark.{Mark}
use Rattle.wfe_draw_page.proofs.mark.push_mark.Goals as goal

pub returns-in_ok-push : goal.returns-in_ok-push
returns-in_ok-push c bars place among fits =
    let grid = c.args.grid.now in
    let mark : Mark = record { frame = c.in-Some.frame; bar = c.args.bar.now } in
    let one : Fits grid bars mark = record { within = c.in-Some.ensures.within; spans = c.in-Some.ensures.spans; place = place; among = among } in
    All-same (Fits grid bars) _ _ c.in_ok-push.ensures.items (All-push (Fits grid bars) c.args.marks.now.items mark fits one)
