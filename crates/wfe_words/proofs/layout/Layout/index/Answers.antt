use Rattle.std.proofs.Common.{arith, ap, ◌*◌}
use Rattle.wfe_words.specs.declared.layout.Layout.{Layout}
use Rattle.wfe_words.proofs.Bounds.{bounds, cell_few}
use Rattle.wfe_words.proofs.layout.Layout.index.Goals as goal

pub overflow_mul-result : goal.overflow_mul-result
overflow_mul-result c =
    let seen = ap (λ (seen : Layout). c.args.seat * seen.config.indexes) c.self.view_is in
    omega (arith, seen, cell_few c.args.self.now c.args.seat c.args.index c.requires.valid c.requires.there)

pub overflow_add-result : goal.overflow_add-result
overflow_add-result c =
    let seen = ap (λ (seen : Layout). c.args.seat * seen.config.indexes) c.self.view_is in
    omega (arith, seen, cell_few c.args.self.now c.args.seat c.args.index c.requires.valid c.requires.there)

pub overflow_add-result-2 : goal.overflow_add-result-2
overflow_add-result-2 c =
    let seen = ap (λ (seen : Layout). c.args.seat * seen.config.indexes) c.self.view_is in
    grind (arith, bounds, seen, cell_few c.args.self.now c.args.seat c.args.index c.requires.valid c.requires.there)
