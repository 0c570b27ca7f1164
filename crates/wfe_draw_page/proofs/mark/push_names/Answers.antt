use Rattle.wfe_draw_page.proofs.Frames.{adds-one, named}
use Rattle.wfe_draw_page.proofs.mark.push_names.Goals as goal

pub loop-lane-preserved : goal.loop-lane-preserved
loop-lane-preserved c = adds-one c.args.bars.now.items c.loop-lane.bars.items c.push.new.self.items c.still.result c.loop-lane.invariant (named c.still.result c.still.ensures.shade) c.in_ok-push.ensures.items
