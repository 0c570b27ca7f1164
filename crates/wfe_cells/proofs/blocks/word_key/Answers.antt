-- A table has so few buckets that the keys of its words fit.
use Rattle.std.proofs.Common.{arith}
use Rattle.wfe_cells.proofs.Refusals.{few_steps}
use Rattle.wfe_cells.proofs.blocks.word_key.Goals as goal

pub overflow_mul-step : goal.overflow_mul-step
overflow_mul-step c =
    let few = few_steps c.args.shared.now.layout c.args.block c.args.word c.requires.valid c.requires.block c.requires.word in
    rw c.buckets.ensures (omega (arith, few))

pub overflow_add-result : goal.overflow_add-result
overflow_add-result c =
    let few = few_steps c.args.shared.now.layout c.args.block c.args.word c.requires.valid c.requires.block c.requires.word in
    rw c.buckets.ensures (omega (arith, few))
