-- Nothing stands at the indexes before.
use Rattle.std.proofs.Common.{arith, get_or, rules, subst, sym, ℕ, ◌<◌, ◌∙◌, ◌≡◌, ◌≤◌}
use Rattle.std.specs.Prelude.{None}
use Rattle.wfe_drive_seat.proofs.Rows.{none_here, none_parting, stood_below, stood_parting}
use Rattle.wfe_drive_seat.proofs.letting.first_standing.Goals as goal

pub returns-then-is_some-clause-phase : goal.returns-then-is_some-clause-phase
returns-then-is_some-clause-phase c =
    stood_parting c.args.post.now c.loop-index.index c.requires.apart c.loop-index.invariant
    (subst (λ (n : ℕ). c.loop-index.index < n) (sym c.requires.valid.all_standing) c.loop-index-test.true) (sym c.is_some.ensures ∙ c.if-is_some.true)

pub loop-index-preserved : goal.loop-index-preserved
loop-index-preserved c =
    sym (none_here c.args.post.now.standing c.loop-index.index (subst (λ (n : ℕ). c.loop-index.index < n) (sym c.requires.valid.all_standing) c.loop-index-test.true) (sym c.is_some.ensures ∙ c.if-is_some.false))
    ∙ c.loop-index.invariant

pub returns-clause-phase : goal.returns-clause-phase
returns-clause-phase c =
    none_parting c.args.post.now c.loop-index.index c.requires.apart c.loop-index.invariant
    (subst (λ (n : ℕ). n ≤ c.loop-index.index) (sym c.requires.valid.all_standing) (let no = c.loop-index-test.false in let low = c.loop-index.auto.index-end in search rules))

pub returns-then-is_some-clause-fits : goal.returns-then-is_some-clause-fits
returns-then-is_some-clause-fits c =
    stood_below c.args.post.now c.loop-index.index (get_or c.args.post.now.standing c.loop-index.index None) (sym c.is_some.ensures ∙ c.if-is_some.true) (c.requires.valid.standing c.loop-index.index c.loop-index-test.true)
