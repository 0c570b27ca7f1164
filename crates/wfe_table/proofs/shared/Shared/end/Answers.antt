use Rattle.std.proofs.Common.{ap, arith}
use Rattle.wfe_core.proofs.Ranges.{bounds_of}
use Rattle.wfe_table.specs.Public.{TableNow}
use Rattle.wfe_table.proofs.shared.Shared.end.Goals as goal

pub gathered-handle-requires-clause-some : goal.gathered-handle-requires-clause-some
gathered-handle-requires-clause-some c =
    let b = (bounds_of c.self.inside.layout c.self.invariant.valid).seats.0 in
    let e = ap (λ (s : TableNow). s.layout.config.seats) c.self.view_is in
    omega (arith, b, e, c.requires.enough)
