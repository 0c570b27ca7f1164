-- The table's key is its layout.
use Rattle.std.proofs.Common.{ap, subst, ◌∙◌, ◌≡◌}
use Rattle.wfe_core.specs.words.declared.layout.Layout.{Layout}
use Rattle.wfe_table.specs.Calls.{IsMade}
use Rattle.wfe_table.specs.Public.{TableNow}
use Rattle.wfe_table.proofs.Bounded.{call_bounded}
use Rattle.wfe_table.proofs.shared.Shared.call.Goals as goal

pub returns-clause-bound : goal.returns-clause-bound
returns-clause-bound c =
    let key : c.self.inside.ledger.shared.key ≡ c.args.self.now.layout = c.self.invariant.key ∙ ap (λ (s : TableNow). s.layout) c.self.view_is in
    let made : IsMade c.args.self.now.layout c.args.seat.now c.make.new.self c.args.call c.make.result =
    subst (λ (layout : Layout). IsMade layout c.args.seat.now c.make.new.self c.args.call c.make.result) key c.make.ensures.made in
    call_bounded c.args.self.now.layout c.args.seat.now c.make.new.self c.args.call c.make.result made
