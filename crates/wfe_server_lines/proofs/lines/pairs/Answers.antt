use Rattle.std.proofs.Common.{arith, length, ◌<◌}
use Rattle.wfe_server_lines.proofs.ClosedLines.{pairs_added}
use Rattle.wfe_server_lines.proofs.lines.pairs.Goals as goal

pub loop-pair-preserved : goal.loop-pair-preserved
loop-pair-preserved c =
    let within : c.loop-pair.pair-index < length c.args.pairs.now = omega arith in
    record {
      text = pairs_added c.args.pairs.now c.loop-pair.pair-index _ c.args.line.now c.loop-pair.line c.number.new.line c.number-in-loop-pair.new.line within c.loop-pair.invariant.text c.number.ensures.text c.number-in-loop-pair.ensures.text;
      room = omega arith;
    }
