use Rattle.std.proofs.Common.{◌≡◌, Bool, true, false, List, [], ◌++◌, Option, Some, None, refl, ap, ◌∙◌}
use Rattle.wfe_core.specs.words.declared.config.SchemeKind.{SchemeKind}
use Rattle.wfe_core.specs.defs.declared.event.Event.{Event}
use Rattle.wfe_core.specs.declared.post.Post.{Post}
use Rattle.wfe_core.specs.Phases.{Base}
use Rattle.wfe_core.specs.Rounds.{clear_told, finish_base}
use Rattle.wfe_call_rounds.specs.Rounds.{close_by, finish_by, finish_from}
use Rattle.wfe_call_rounds.proofs.closing.close.Goals as goal

finish_at : (post : Post) (a b : List Event) (base : Option Base) → (finish_by post a base).at ≡ (finish_by post b base).at
finish_at post a b None = refl
finish_at post a b (Some base) = refl

-- what comes then does not depend on what was told
finishes_at : (kind : SchemeKind) (again : Bool) (post : Post) (a b : List Event) → (finish_from kind again post a).at ≡ (finish_from kind again post b).at
finishes_at kind true post a b = refl
finishes_at kind false post a b = finish_at post a b (finish_base kind post)

pub returns-in-None-clause-next : goal.returns-in-None-clause-next
returns-in-None-clause-next g c =
    let kind = g.S.Scheme.kind in
    let post = c.args.post.now in
    let told = c.args.told.now ++ clear_told kind post c.args.index in
    c.finish.ensures
    ∙ (
    finishes_at kind c.args.again c.clear.new.post [] told
    ∙ (
    ap (λ (p : Post). (finish_from kind c.args.again p told).at) c.clear.ensures.post
    ∙ ap (λ (base : Option Base). (close_by kind c.args.index c.args.again post c.args.told.now base).at) c.in-None.ensures.base
    )
    )
