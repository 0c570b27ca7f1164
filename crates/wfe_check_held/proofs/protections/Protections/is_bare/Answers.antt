use Rattle.std.proofs.Common.{ℕ, List, length, ◌∙◌, ap}
use Rattle.std.specs.Prelude.{◌==◌}
use Rattle.laws.specs.StateAt.{standing_of}
use Rattle.wfe_check_held.specs.Shown.{rows_in}
use Rattle.wfe_check_held.proofs.Sets.{both_empty, empty_is}
use Rattle.wfe_check_held.proofs.protections.Protections.is_bare.Goals as goal

pub returns-clause-told : goal.returns-clause-told
returns-clause-told c config p r k j =
    c.is_empty.ensures ∙ ap (λ (rows : List ℕ). length rows == 0) c.rows.ensures.shown ∙ empty_is (rows_in c.args.self.now c.args.seat c.args.index)
    ∙ both_empty (rows_in c.args.self.now c.args.seat c.args.index) (standing_of c.args.seat c.args.index p) (λ s. r.standing c.args.seat c.args.index s k j)
