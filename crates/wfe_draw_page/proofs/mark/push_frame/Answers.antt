use Rattle.std.proofs.lemmas.Result.{on_ok_weaker}
use Rattle.wfe_draw_page.proofs.Frames.{adds-both}
use Rattle.wfe_draw_page.proofs.mark.push_frame.Goals as goal

pub returns : goal.returns
returns c =
    on_ok_weaker c.push_colours.result (λ colours. adds-both c.args.bars.now.items c.push_names.new.bars.items c.push_colours.new.bars.items c.in_ok-push_names.ensures colours) c.push_colours.ensures
