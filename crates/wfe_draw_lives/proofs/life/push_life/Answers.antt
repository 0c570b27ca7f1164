use Rattle.std.proofs.lemmas.Result.{on_ok_weaker}
use Rattle.wfe_draw_lives.proofs.Chains.{draws-more}
use Rattle.wfe_draw_lives.proofs.life.push_life.Goals as goal

pub returns : goal.returns
returns c p is before =
    on_ok_weaker c.push_line.result
    (λ line. draws-more p c.args.life.now c.args.bars.now.items c.push_parts.new.bars.items c.push_line.new.bars.items is c.in_ok-push_parts.ensures line before)
    c.push_line.ensures
