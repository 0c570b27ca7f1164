use Rattle.std.proofs.Common.{◌<◌, length, arith}
use Rattle.std.proofs.lemmas.Option.{slice_get-get_or}
use Rattle.wfe_draw_page.proofs.mark.push_layer.Goals as goal
use Rattle.wfe_draw_page.proofs.mark.push_layer.Goals.{then-layer-of+in_ok-push_mark, else-layer-of}

pub loop-bar-preserved : goal.loop-bar-preserved
loop-bar-preserved c =
    let within : c.loop-bar.bar-index < length c.args.bars.now = omega arith in
    elim c.if-layer-of.branch [
      | then-layer-of+in_ok-push_mark w ↦
          rw w.marks-is (w.in_ok-push_mark.ensures c.args.bars.now c.loop-bar.bar-index (slice_get-get_or c.args.bars.now c.loop-bar.bar-index _ within) c.loop-bar.invariant)
      | else-layer-of w ↦ rw w.marks-is c.loop-bar.invariant
    ]
