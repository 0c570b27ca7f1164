use Rattle.std.proofs.Common.{arith, sym, subst, ap, ◌<◌}
use Rattle.std.proofs.lemmas.Grind.{common_steps}
use Rattle.wfe_core.specs.words.declared.config.Config.{Config}
use Rattle.wfe_core.proofs.Ranges.{bounds_of}
use Rattle.wfe_table.proofs.seat.meet.Goals as goal

pub nonzero_rem-bucket : goal.nonzero_rem-bucket
nonzero_rem-bucket c =
    let b = (bounds_of c.args.layout c.requires.valid).buckets in
    subst (λ (config : Config). 0 < config.buckets) (sym c.config.ensures) (omega (arith, b))

pub index_mut-requires : goal.index_mut-requires
index_mut-requires c =
    let b = (bounds_of c.args.layout c.requires.valid).buckets in
    let n = c.requires.met.1.count in
    let e = ap (λ (config : Config). config.buckets) c.config.ensures in
    grind (arith, common_steps, b, n, e)
