use Rattle.std.proofs.Common.{◌<◌, length, append_assoc, arith}
use Rattle.wfe_text.proofs.Texts.{spaced_more}
use Rattle.wfe_text.proofs.print.numbers.Goals as goal

pub loop-each-preserved : goal.loop-each-preserved
loop-each-preserved c =
    let within : c.loop-each.each-index < length c.args.numbers.now = omega arith in
    record {
      text = rw (spaced_more c.args.numbers.now c.loop-each.each-index within, ← append_assoc, ← c.loop-each.invariant.text) c.number.ensures.text;
      room = omega arith;
    }
