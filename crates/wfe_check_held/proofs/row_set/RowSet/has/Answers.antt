use Rattle.std.proofs.Common.{ℕ, rules, ◌∙◌, ◌≡◌}
use Rattle.std.specs.List.{list_any}
use Rattle.std.specs.Prelude.{◌==◌}
use Rattle.wfe_check_held.proofs.Sets.{any_is}
use Rattle.wfe_check_held.proofs.row_set.RowSet.has.Goals as goal

pub returns : goal.returns
returns c = let e : c.contains.result ≡ list_any (λ (y : ℕ). y == c.args.slot) c.args.self.now = search rules in e ∙ any_is c.args.slot c.args.self.now
