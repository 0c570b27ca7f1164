use Rattle.std.proofs.Common.{List, [], ap, rules, ℕ, ◌++◌, ◌∙◌, ◌≡◌, ◌∷◌}
use Rattle.wfe_core.specs.defs.declared.event.Event.{Event}
use Rattle.wfe_core.specs.defs.declared.event.Event.TheVariants as events
use Rattle.wfe_server_lines.proofs.Told.{early_taken, late_left}
use Rattle.wfe_server_lines.proofs.Told.{joined, on_ok}
use Rattle.wfe_server_lines.proofs.events.push_events.Goals as goal

pub returns : goal.returns
returns c =
    let back = c.args.notes.now.back in
    let early = c.args.notes.now.early in
    let slots = c.as_slice-slots.result.now in
    let same : c.notes.inside.steps ≡ c.args.notes.now.steps = search rules in
    on_ok c.push-2.result c.push-2.ensures
    (λ last. joined c.args.events.now.items _ _ _ _ _ _ _ _ _ _ _ _ _ _ _ _
    c.in_ok-push.ensures
    (c.in_ok-push_backs.ensures ∙ ap (λ (told : List Event). c.push.new.events.items ++ told) (early_taken c.min.result early c.split_at.result.0.now slots back (search rules) (search rules) c.split_at.ensures.front))
    (c.in_ok-push_some.ensures ∙ ap (λ (told : List Event). c.push_backs.new.events.items ++ told) c.given.ensures)
    (c.in_ok-push_some-2.ensures ∙ search rules)
    (c.in_ok-push_some-3.ensures ∙ ap (λ (told : List Event). c.push_some-2.new.events.items ++ told) c.unused.ensures)
    (c.in_ok-push_some-4.ensures ∙ ap (λ (told : List Event). c.push_some-3.new.events.items ++ told) c.retired.ensures)
    (c.in_ok-push_backs-2.ensures ∙ ap (λ (told : List Event). c.push_some-4.new.events.items ++ told) (late_left c.min.result early c.split_at.result.1.now slots back (search rules) (search rules) c.split_at.ensures.back))
    (last ∙ ap (λ (steps : ℕ). c.push_backs-2.new.events.items ++ events.End steps c.args.answer ∷ []) same))
