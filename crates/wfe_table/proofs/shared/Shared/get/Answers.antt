-- The table's key is its layout.
use Rattle.std.proofs.Common.{ap, subst, ◌∙◌, ◌≡◌}
use Rattle.wfe_core.specs.defs.declared.call.Answer.TheVariants as answers
use Rattle.wfe_core.specs.defs.declared.call.Call.TheVariants as calls
use Rattle.wfe_core.specs.words.declared.layout.Layout.{Layout}
use Rattle.wfe_table.specs.Calls.{IsMade}
use Rattle.wfe_table.specs.Public.{TableNow}
use Rattle.wfe_table.proofs.Bounded.{get_bounded}
use Rattle.wfe_table.proofs.shared.Shared.get.Goals as goal

pub returns-clause-bound : goal.returns-clause-bound
returns-clause-bound c =
    let key : c.self.inside.ledger.shared.key ≡ c.args.self.now.layout = c.self.invariant.key ∙ ap (λ (s : TableNow). s.layout) c.self.view_is in
    let made : IsMade c.args.self.now.layout c.args.seat.now c.get.new.self (calls.Get c.args.key) (answers.Got c.get.result.version c.get.result.value) =
    subst (λ (layout : Layout). IsMade layout c.args.seat.now c.get.new.self (calls.Get c.args.key) (answers.Got c.get.result.version c.get.result.value)) key c.get.ensures.made in
    get_bounded c.args.self.now.layout c.args.seat.now c.get.new.self c.args.key (answers.Got c.get.result.version c.get.result.value) made
