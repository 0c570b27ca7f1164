use Rattle.std.proofs.Common.{◌∙◌}
use Rattle.wfe_server_replay.proofs.Tables.{counted_more, listed_more}
use Rattle.wfe_server_replay.proofs.play.count_all.Goals as goal

pub loop-place-preserved : goal.loop-place-preserved
loop-place-preserved c = record {
  garbage = c.loop-place.invariant.garbage ∙ counted_more c.loop-place.garbage c.args.seat c.args.told.now c.loop-place.place c.get-event.result.now c.count.new.self c.get-event.ensures c.count.ensures.rows;
  lists = c.loop-place.invariant.lists ∙ listed_more c.loop-place.lists c.args.seat c.args.told.now c.loop-place.place c.get-event.result.now c.count-in-loop-place.new.self c.get-event.ensures c.count-in-loop-place.ensures;
}
