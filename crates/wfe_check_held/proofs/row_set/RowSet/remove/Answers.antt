use Rattle.std.proofs.Common.{ℕ, rules, ◌∙◌, sym, ◌≡◌, ap}
use Rattle.std.proofs.lemmas.Fn.{filter_same}
use Rattle.std.specs.List.{filter}
use Rattle.std.specs.Prelude.{◌==◌, not}
use Rattle.wfe_check_held.proofs.Sets.{without_is}
use Rattle.wfe_check_held.proofs.row_set.RowSet.remove.Goals as goal

pub returns : goal.returns
returns c =
    let e : c.retain.new.self.items ≡ filter (λ (y : ℕ). not (y == c.args.slot)) c.self.inside.slots.items = filter_same _ _ _ (λ x b f' k. search rules) _ _ c.retain.ensures.filtered in
    e ∙ ap (filter (λ (y : ℕ). not (y == c.args.slot))) c.self.view_is ∙ sym (without_is c.args.slot c.args.self.now)
