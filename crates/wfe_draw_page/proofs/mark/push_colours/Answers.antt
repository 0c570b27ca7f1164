use Rattle.wfe_draw_page.proofs.Frames.{adds-one, on-page}
use Rattle.wfe_draw_page.proofs.mark.push_colours.Goals as goal

pub loop-shade-preserved : goal.loop-shade-preserved
loop-shade-preserved c = adds-one c.args.bars.now.items c.loop-shade.bars.items c.push.new.self.items c.still.result c.loop-shade.invariant (on-page c.still.result c.still.ensures.lane) c.in_ok-push.ensures.items
