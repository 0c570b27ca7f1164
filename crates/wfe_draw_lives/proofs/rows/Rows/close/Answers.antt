use Rattle.std.proofs.lemmas.List.Elements.{All-push, All-same}
use Rattle.wfe_draw_lives.specs.Lives.{IsLife}
use Rattle.wfe_draw_lives.proofs.Growing.{all-lives, open-life}
use Rattle.wfe_draw_lives.proofs.rows.Rows.close.Goals as goal
use Rattle.wfe_draw_lives.proofs.rows.Rows.close.Goals.{in-Some+then-comes_after+in_ok-push, in_default}

pub loop-place-init : goal.loop-place-init
loop-place-init c = λ p lived. all-lives p c.args.self.lives.items lived.ended

pub loop-place-preserved : goal.loop-place-preserved
loop-place-preserved c p lived =
    elim c.match-get_index.branch [
      | in-Some+then-comes_after+in_ok-push w ↦
          let is : IsLife p w.in-Some.life.now = open-life p w.in-Some.field-0-0.now w.in-Some.life.now _ w.in-Some.ensures.value (lived.now w.in-Some.field-0-0.now) in
          rw w.lives-is (All-same (IsLife p) _ _ w.in_ok-push.ensures.items (All-push (IsLife p) c.loop-place.lives.items w.in-Some.life.now (c.loop-place.invariant p lived) is))
      | in_default w ↦ rw w.lives-is (c.loop-place.invariant p lived)
    ]
