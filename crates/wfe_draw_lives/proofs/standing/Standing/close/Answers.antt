use Rattle.std.proofs.Common.{IfSome, subst}
use Rattle.std.proofs.lemmas.List.Elements.{All-push, All-same}
use Rattle.wfe_draw_lives.specs.Scenes.{OfNoRow}
use Rattle.wfe_draw_lives.proofs.standing.Standing.close.Goals as goal
use Rattle.wfe_draw_lives.proofs.standing.Standing.close.Goals.{in-Some+in_ok-push, in_default}

pub loop-place-preserved : goal.loop-place-preserved
loop-place-preserved c none =
    elim c.match-get_index.branch [
      | in-Some+in_ok-push w ↦
          let is : OfNoRow w.in-Some.bar.now = subst (λ o. IfSome o OfNoRow) w.in-Some.ensures.value (none.now w.in-Some.field-0-0.now) in
          rw w.bars-is (All-same OfNoRow _ _ w.in_ok-push.ensures.items (All-push OfNoRow c.loop-place.bars.items w.in-Some.bar.now (c.loop-place.invariant none) is))
      | in_default w ↦ rw w.bars-is (c.loop-place.invariant none)
    ]
