use Rattle.std.proofs.Common.{rules}
use Rattle.wfe_server_gen.proofs.Counted.{gains_all, gains_more, gains_start}
use Rattle.wfe_server_gen.proofs.summary.Summary.count_all.Goals as goal

pub loop-place-init : goal.loop-place-init
loop-place-init c = gains_start c.args.self.now c.args.seat c.args.told.now

pub loop-place-preserved : goal.loop-place-preserved
loop-place-preserved c = gains_more c.args.self.now c.loop-place.self c.count.new.self c.args.seat c.args.told.now c.loop-place.place c.get.result.now c.get.ensures c.loop-place.invariant c.count.ensures

pub returns : goal.returns
returns c = gains_all _ _ c.args.seat c.args.told.now c.loop-place.place (search rules) c.loop-place.invariant
