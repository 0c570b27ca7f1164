use Rattle.std.proofs.Common.{◌∙◌, sym}
use Rattle.laws.specs.records.Record.Past.{Then}
use Rattle.wfe_check_held.proofs.Holds.{holds_is}
use Rattle.wfe_check_held.proofs.Throughout.{held_now, throughout_more}
use Rattle.wfe_check_held.proofs.protections.Protections.holds.Goals as goal

pub returns-clause-law : goal.returns-clause-law
returns-clause-law c config p r q w h u =
    let whole = holds_is config c.args.self.now c.args.rows.now p c.args.seat c.args.event.now r q w (held_now config p h) u in (
      (λ ok. throughout_more config p c.args.seat c.args.event.now h (whole.0 (sym c.holds_after.ensures ∙ ok))),
      (λ all. c.holds_after.ensures ∙ whole.1 (held_now config (Then p c.args.seat c.args.event.now) all)),
    )

pub returns-clause-now : goal.returns-clause-now
returns-clause-now c config p r q w h u =
    let whole = holds_is config c.args.self.now c.args.rows.now p c.args.seat c.args.event.now r q w h u in
    ((λ ok. whole.0 (sym c.holds_after.ensures ∙ ok)), (λ all. c.holds_after.ensures ∙ whole.1 all))
