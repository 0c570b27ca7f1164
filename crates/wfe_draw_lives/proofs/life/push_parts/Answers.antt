use Rattle.std.proofs.lemmas.Result.{on_ok_weaker}
use Rattle.wfe_draw_lives.proofs.Chains.{adds-then}
use Rattle.wfe_draw_lives.proofs.life.push_parts.Goals as goal

pub returns : goal.returns
returns c =
    let life = c.args.life.now in
    let waits = c.in_ok-waits.waits in
    let cut = c.in_ok-cut.cut in
    let linked = c.in_ok-linked.linked in
    let none = c.args.bars.now.items in
    let one = c.push_part.new.bars.items in
    let two = c.push_part-2.new.bars.items in
    let three = c.push_part-3.new.bars.items in
    on_ok_weaker c.push_first.result
    (λ first.
    adds-then life.slot life.back linked life.given none three c.push_first.new.bars.items
    (adds-then life.slot life.back cut linked none two three (adds-then life.slot life.back waits cut none one two c.in_ok-waits.ensures c.in_ok-cut.ensures) c.in_ok-linked.ensures) first)
    c.push_first.ensures
