use Rattle.std.proofs.Common.{arith}
use Rattle.wfe_core.proofs.Ranges.{bounds_of}
use Rattle.wfe_table.proofs.shared.Shared.end_left.Goals as goal

pub all_gathered-handle-requires-clause-some : goal.all_gathered-handle-requires-clause-some
all_gathered-handle-requires-clause-some c =
    let b = (bounds_of c.args.self.layout c.parts-ledger.ensures.valid).seats.0 in
    omega (arith, b, c.requires.enough)
