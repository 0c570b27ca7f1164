use Rattle.std.proofs.Common.{◌<◌, length, arith}
use Rattle.std.proofs.lemmas.List.Elements.{All-get_or, All-same}
use Rattle.wfe_draw_lives.specs.Lives.{IsLife}
use Rattle.wfe_draw_lives.proofs.scene.Scene.close.Goals as goal

pub loop-life-preserved : goal.loop-life-preserved
loop-life-preserved c p shows =
    let lives = c.deref-life-items.result.now in
    let within : c.loop-life.life-index < length lives = omega arith in
    let all = All-same (IsLife p) lives c.in_ok-lives.lives.items c.deref-life-items.ensures.value (c.in_ok-lives.ensures p shows.rows) in
    c.in_ok-push_life.ensures p (All-get_or (IsLife p) lives c.loop-life.life-index _ within all) (c.loop-life.invariant p shows)
